-- Reading the tracks of a signature, one turn more. Assumes the laws of the kind.
use Rattle.std.proofs.Common.{◌≡◌, ℕ, suc, ◌+◌, ◌-◌, ◌*◌, ◌<◌, ◌≤◌, not, eqb, List, [], ◌∷◌, length, get_or, take, drop, Ok, Err, Result, sym, ap, ◌∙◌, subst, add-one, suc-mul, arith}
use borrow.Rule.Slice.PartMut.{put_mid}
use Rattle.std.proofs.Math.Nat.{mul-le-mul_right}
use Rattle.std.proofs.lemmas.List.{length-drop, length-take-le, get_or-take, drop-take}
use Rattle.kinds.specs.Bytes.{word}
use Rattle.kinds.specs.Codings.{Coding, Lawful}
use Rattle.kinds.specs.Kinds.{most_test_width}
use Rattle.sheetfile.specs.declared.fault.Cause.TheVariants.{Tag, Length, Test}
use Rattle.sheetfile.specs.declared.fault.Fault.{Fault}
use Rattle.sheetfile.specs.Card.{fault}
use Rattle.sheetfile.specs.Encoding.{track_tag}
use Rattle.sheetfile.specs.Outcomes.{Outcome, give, check, into, bare, chain}
use Rattle.sheetfile.specs.Reading.{tests_read, track_read, track_size, tracks_read}
use Rattle.sheetfile.proofs.Outcomes.{went_on, told_ok, bare_into}
use Rattle.sheetfile.proofs.Values.{values_own}
use Rattle.sheetfile.proofs.Only.{values_only}
use Rattle.sheet.specs.Stored.{Left}
use Rattle.sheet.proofs.Puts.{Same, same_at, same_last, same_chain, left_chain, left_is, left_part, length_mid}
use Rattle.sheet.proofs.Filling.{less_long}

-- one part of a store in parts of m
pub one_part : (i m : ℕ) → (i + 1) * m - i * m ≡ m
one_part i m = omega (arith, suc-mul i m, ap (λ v. v * m) (add-one i))

module _ {T : Type 0} (k : Coding T) (law : Lawful most_test_width k) (m : ℕ) where
  abbrev size : ℕ
  size = track_size k m

  -- a track is read from its own bytes alone
  track_own : (at : ℕ) (xs : List ℕ) → track_read k m at (take size xs) ≡ track_read k m at xs
  track_own at xs =
      let ys = take size xs in
      let n = m * k.width in
      let same : (i : ℕ) → i < 3 → get_or ys i 0 ≡ get_or xs i 0 = λ i l. get_or-take size xs i 0 (omega arith) in
      let read : ℕ → ℕ → ℕ → List ℕ → Outcome T (List T) = λ a b c zs. check (not (eqb a track_tag)) (fault Tag at) (check (not (eqb (b * 256 + c) n)) (fault Length at) (tests_read k m (at + 3) zs)) in
      ap (λ a. read a (get_or ys 1 0) (get_or ys 2 0) (drop 3 ys)) (same 0 (omega arith))
      ∙ ap (λ b. read (get_or xs 0 0) b (get_or ys 2 0) (drop 3 ys)) (same 1 (omega arith))
      ∙ ap (λ c. read (get_or xs 0 0) (get_or xs 1 0) c (drop 3 ys)) (same 2 (omega arith))
      ∙ ap (λ zs. read (get_or xs 0 0) (get_or xs 1 0) (get_or xs 2 0) zs) (drop-take 3 n xs)
      ∙ ap (λ r. check (not (eqb (get_or xs 0 0) track_tag)) (fault Tag at) (check (not (eqb (word xs 1) n)) (fault Length at) r)) (values_own Test k m (at + 3) (drop 3 xs))

  track_count : (at : ℕ) (xs : List ℕ) (ts : List T) → (track_read k m at xs).end ≡ Ok ts → length (track_read k m at xs).tests ≡ m
  track_count at xs ts h =
      let rest = tests_read k m (at + 3) (drop 3 xs) in
      let then = check (not (eqb (word xs 1) (m * k.width))) (fault Length at) rest in
      let p = went_on (not (eqb (get_or xs 0 0) track_tag)) (fault Tag at) then ts h in
      let q = went_on (not (eqb (word xs 1) (m * k.width))) (fault Length at) rest ts p.2 in
      let all = values_only k law Test m (at + 3) (drop 3 xs) ts q.2 in
      ap (λ o. length o.tests) (p.1 ∙ q.1) ∙ ap length all.tests ∙ all.within.long

  -- so many tracks, where one is left
  abbrev then_tracks : ℕ → ℕ → List ℕ → List T → Outcome T (List (List T))
  then_tracks less at xs = λ ts. into (λ tss. ts ∷ tss) (tracks_read k m less (at + size) (drop size xs))

  tracks_some : (left less at : ℕ) (xs : List ℕ) → left ≡ suc less → tracks_read k m left at xs ≡ chain (track_read k m at xs) (then_tracks less at xs)
  unfolding tracks_read
  tracks_some left less at xs h = ap (λ n. tracks_read k m n at xs) h

  tracks_none : (left at : ℕ) (xs : List ℕ) → left ≡ 0 → tracks_read k m left at xs ≡ give []
  unfolding tracks_read
  tracks_none left at xs h = ap (λ n. tracks_read k m n at xs) h

  module _ (count at : ℕ) (body : List ℕ) (s₀ : List T) where
    abbrev whole : Outcome T (List (List T))
    whole = tracks_read k m count at body

    -- what is left comes to the same as the whole
    pub record TracksTurn (i place : ℕ) (rest : List ℕ) (s : List T) : Type 0 where
      pub same : Same (bare whole) 0 s₀ (bare (tracks_read k m (count - i) place rest)) (i * m) s
      pub long : (count - i) * size ≤ length rest
      pub room : length s ≡ count * m

    module _ {i place : ℕ} {rest : List ℕ} {s : List T} (h : TracksTurn i place rest s) where
      pub tracks_end : count ≤ i → Left (bare whole) 0 s₀ (Ok tt) s
      tracks_end l = same_last _ h.same (ap bare (tracks_none (count - i) place rest (omega arith)))

      module _ (l : i < count) where
        less : count - i ≡ suc (count - (i + 1))
        less = omega arith

        pub track_long : size ≤ length rest
        track_long = omega (arith, h.long, ap (λ n. n * size) less, suc-mul (count - (i + 1)) size)

        track_room : i * m + m ≤ length s
        track_room = omega (arith, h.room, mul-le-mul_right {m = i + 1} {n = count} m (omega arith), suc-mul i m, ap (λ v. v * m) (add-one i))

        here : Same (bare whole) 0 s₀ (bare (chain (track_read k m place rest) (then_tracks (count - (i + 1)) place rest))) (i * m) s
        here = subst (λ (o : Outcome T (List (List T))). Same (bare whole) 0 s₀ (bare o) (i * m) s) (tracks_some (count - i) (count - (i + 1)) place rest less) h.same

        -- the track that the code reads, from its own bytes into its own part of the store
        module _ (n : ℕ) (is : n ≡ m) (front : List ℕ) (taken : front ≡ take size rest) where
          sized : length (take n (drop (i * m) s)) ≡ m
          sized = length-take-le n (drop (i * m) s) (omega (arith, length-drop (i * m) s, track_room)) ∙ is

          pub track_ready : length front ≡ track_size k (length (take n (drop (i * m) s)))
          track_ready = ap length taken ∙ length-take-le size rest track_long ∙ ap (track_size k) (sym sized)

          module _ (p : ℕ) (there : p ≡ place) (new : List T) (kept : length new ≡ length (take n (drop (i * m) s))) where
            track_left : {r : Result (Unit {0}) Fault} → Left (bare (track_read k (length (take n (drop (i * m) s))) p front)) 0 (take n (drop (i * m) s)) r new → Left (bare (track_read k m place rest)) (i * m) s r (put_mid (i * m) n s new)
            track_left part =
                left_is (ap bare (sym (ap (λ v. track_read k v p front) sized ∙ ap (λ q. track_read k m q front) there ∙ ap (track_read k m place) taken ∙ track_own place rest)))
                (left_part (i * m) n s new (omega (arith, track_room)) kept part)

            pub tracks_break : (e : Fault) → Left (bare (track_read k (length (take n (drop (i * m) s))) p front)) 0 (take n (drop (i * m) s)) (Err e) new → Left (bare whole) 0 s₀ (Err e) (put_mid (i * m) n s new)
            tracks_break e part = left_chain _ _ (track_read k m place rest) (then_tracks (count - (i + 1)) place rest) e here (track_left part)

            pub tracks_again : (behind : List ℕ) → behind ≡ drop size rest → (q : ℕ) → q ≡ place + size → Left (bare (track_read k (length (take n (drop (i * m) s))) p front)) 0 (take n (drop (i * m) s)) (Ok tt) new → TracksTurn (i + 1) q behind (put_mid (i * m) n s new)
            tracks_again behind goes q on part =
                let left = count - (i + 1) in
                let a = track_read k m place rest in
                let mine = track_left part in
                let ok = told_ok (λ ts. tt) a.end tt mine.answer in
                let length_is : length a.tests ≡ m = track_count place rest ok.0 ok.1 in
                let so = same_chain _ (λ ts. tt) a (then_tracks left place rest) tt here mine (omega (arith, track_room)) in
                let step : bare (then_tracks left place rest so.0) ≡ bare (tracks_read k m left q behind) =
                bare_into (λ tss. so.0 ∷ tss) (tracks_read k m left (place + size) (drop size rest))
                ∙ ap (λ v. bare (tracks_read k m left v (drop size rest))) (sym on)
                ∙ ap (λ ys. bare (tracks_read k m left q ys)) (sym goes) in
                record {
                  same = same_at step (omega (arith, length_is, suc-mul i m, ap (λ v. v * m) (add-one i))) so.3;
                  long = omega (arith, ap length goes, less_long count i size rest l h.long);
                  room = length_mid (i * m) n s new (omega (arith, track_room)) kept ∙ h.room;
                }
