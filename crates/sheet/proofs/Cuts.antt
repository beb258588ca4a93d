-- The tests of one track, as entries say them and as they are cut from a store. Assumes nothing.
use Rattle.std.proofs.Common.{◌≡◌, ℕ, zero, suc, ◌+◌, ◌-◌, ◌*◌, ◌<◌, ◌≤◌, Bool, true, false, cond, ◌&&◌, leb, ltb, List, [], length, get_or, take, drop, Some, None, sym, refl, ap, ◌∙◌, mul-le-mul_right, suc-mul, zero-mul, arith}
use Rattle.std.proofs.lemmas.Bool.{leb-true, le-leb, lt-ltb, ltb-true, ltb-false}
use Rattle.std.proofs.lemmas.List.{drop-drop, drop-take, take-take, length-take, length-drop}
use Rattle.sheet.specs.declared.entry.Entry.{Entry}
use Rattle.sheet.specs.Parts.{part_of}
use Rattle.sheet.specs.Said.{pieces, signature_said}
use Rattle.sheet.specs.TrackParts.{track_of}

-- track t of n ends within the tests of n tracks
pub track_end : (t n m : ℕ) → t < n → t * m + m ≤ n * m
track_end t n m h = omega (arith, suc-mul t m, mul-le-mul_right {m = suc t} {n = n} m (omega arith))

module _ {T : Type 0} where
  -- one of so many pieces
  pub piece : (m n t : ℕ) (ts : List T) → t < n → get_or (pieces m n ts) t [] ≡ take m (drop (t * m) ts)
  unfolding pieces
  piece m zero t ts h = absurd (omega arith)
  piece m (suc n) zero ts h = ap (λ k. take m (drop k ts)) (sym (zero-mul m))
  piece m (suc n) (suc t) ts h =
      piece m n t (drop m ts) (omega arith)
      ∙ ap (take m) (drop-drop (t * m) m ts)
      ∙ ap (λ k. take m (drop k ts)) (omega (arith, suc-mul t m))

  -- how many pieces there are
  pub pieces_count : (m n : ℕ) (ts : List T) → length (pieces m n ts) ≡ n
  unfolding pieces
  pieces_count m zero ts = refl
  pieces_count m (suc n) ts = ap suc (pieces_count m n (drop m ts))

  -- a track's tests, cut from those of n tracks alone
  pub track_cut : (m n t : ℕ) (ts : List T) → t < n → take m (drop (t * m) (take (n * m) ts)) ≡ get_or (pieces m n ts) t []
  track_cut m n t ts h =
      let l = track_end t n m h in
      let e : t * m + (n * m - t * m) ≡ n * m = omega arith in
      ap (λ k. take m (drop (t * m) (take k ts))) (sym e)
      ∙ ap (take m) (drop-take (t * m) (n * m - t * m) ts)
      ∙ take-take m (n * m - t * m) (drop (t * m) ts) (omega arith)
      ∙ sym (piece m n t ts h)

-- what a part of the store is, where there is one
pub found : {T : Type 0} (e : Entry) (store part : List T) → Some part ≡ part_of e store → (part ≡ take (e.tracks * e.frames) (drop e.first store)) × (e.tracks * e.frames ≤ length part)
found {T = T} e store part is = go (leb (e.first + e.tracks * e.frames) (length store)) refl is
  where
    whole : List T
    whole = take (e.tracks * e.frames) (drop e.first store)

    go : (b : Bool) → leb (e.first + e.tracks * e.frames) (length store) ≡ b → Some part ≡ cond b (Some whole) None → (part ≡ whole) × (e.tracks * e.frames ≤ length part)
    go true fits is =
        let same : part ≡ whole = cc in
        (same, omega (arith, ap length same, length-take (e.tracks * e.frames) (drop e.first store), length-drop e.first store, leb-true (e.first + e.tracks * e.frames) (length store) fits))
    go false fits is = let z : ◌≡◌ {A = ℕ} 0 1 = cc in absurd (omega arith)

-- the tests of a track, cut from those of its signature
pub track_found : {T : Type 0} (e : Entry) (t : ℕ) (store part : List T) → t < e.tracks → Some part ≡ part_of e store
    → Some (take (t * e.frames + e.frames - t * e.frames) (drop (t * e.frames) part)) ≡ track_of e t store
track_found {T = T} e t store part l is = go (leb (e.first + e.tracks * e.frames) (length store)) refl is
  where
    tests : List T
    tests = get_or (signature_said store e).tracks t []

    go : (b : Bool) → leb (e.first + e.tracks * e.frames) (length store) ≡ b → Some part ≡ cond b (Some (take (e.tracks * e.frames) (drop e.first store))) None
        → Some (take (t * e.frames + e.frames - t * e.frames) (drop (t * e.frames) part)) ≡ track_of e t store
    go true fits is =
        let same : part ≡ take (e.tracks * e.frames) (drop e.first store) = cc in
        let width : t * e.frames + e.frames - t * e.frames ≡ e.frames = omega arith in
        ap (λ k. Some (take k (drop (t * e.frames) part))) width
        ∙ ap (λ ts. Some (take e.frames (drop (t * e.frames) ts))) same
        ∙ ap Some (track_cut e.frames e.tracks t (drop e.first store) l)
        ∙ sym (ap (λ b. cond (b && leb (e.first + e.tracks * e.frames) (length store)) (Some tests) None) (lt-ltb t e.tracks l)
        ∙ ap (λ b. cond b (Some tests) None) fits)
    go false fits is = let z : ◌≡◌ {A = ℕ} 0 1 = cc in absurd (omega arith)

-- there they are, where there is such a track and the store is long enough
pub track_there : {T : Type 0} (e : Entry) (t : ℕ) (store : List T) → t < e.tracks → e.first + e.tracks * e.frames ≤ length store
    → track_of e t store ≡ Some (get_or (signature_said store e).tracks t [])
track_there {T = T} e t store l stored =
    let tests : List T = get_or (signature_said store e).tracks t [] in
    ap (λ b. cond (b && leb (e.first + e.tracks * e.frames) (length store)) (Some tests) None) (lt-ltb t e.tracks l)
    ∙ ap (λ b. cond b (Some tests) None) (le-leb (e.first + e.tracks * e.frames) (length store) stored)

-- where a track has no tests, the tracks after it have none either
pub none_after : {T : Type 0} (e : Entry) (t u : ℕ) (store tests : List T) → t ≤ u → track_of e t store ≡ None → track_of e u store ≡ Some tests → ⊥
none_after {T = T} e t u store tests l none some = go (ltb t e.tracks) (ltb u e.tracks) (leb (e.first + e.tracks * e.frames) (length store)) refl refl none some
  where
    go : (a b c : Bool) → ltb t e.tracks ≡ a → ltb u e.tracks ≡ b → cond (a && c) (Some (get_or (signature_said store e).tracks t [])) None ≡ None → cond (b && c) (Some (get_or (signature_said store e).tracks u [])) None ≡ Some tests → ⊥
    go true b true p q none some = let z : ◌≡◌ {A = ℕ} 0 1 = cc in omega arith
    go true true false p q none some = let z : ◌≡◌ {A = ℕ} 0 1 = cc in omega arith
    go true false false p q none some = let z : ◌≡◌ {A = ℕ} 0 1 = cc in omega arith
    go false true c p q none some = let y = ltb-true u e.tracks q in let n = ltb-false t e.tracks p in omega arith
    go false false c p q none some = let z : ◌≡◌ {A = ℕ} 0 1 = cc in omega arith
