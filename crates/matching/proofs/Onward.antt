-- Steps of the search from some track on.
use Rattle.std.proofs.Common.{◌≡◌, ℕ, zero, suc, ◌+◌, ◌-◌, ◌^◌, ◌<◌, Bool, true, false, cond, not, ◌&&◌, eqb, List, [], ◌∷◌, length, get_or, take, drop, set, replicate, Some, None, Option, sym, refl, ap, ◌∙◌, inl, inr, add-one, arith}
use mathlib.Core.Path.{fun_ext}
use Rattle.std.proofs.lemmas.Bool.{true≢false, and_parts, not-false, eqb-true, cases_eq, cond-true, cond-false, and_from, and_cases}
use Rattle.std.proofs.lemmas.List.{get_or-set_other}
use Rattle.std.specs.Option.{option_map}
use Rattle.matching.specs.declared.fits.Fits.{Fits}
use Rattle.matching.specs.declared.placing.Placing.{Placing}
use Rattle.matching.specs.Count.{count}
use Rattle.matching.specs.Sets.{has}
use Rattle.matching.specs.Search.{first_placing_of, first_on, first_some, prepend, without}
use Rattle.matching.specs.Meaning.{table, fitting, heads_of}
use Rattle.matching.specs.Onward.{onward, size, Honest}
use Rattle.matching.proofs.Counting.{count_without}
use Rattle.matching.proofs.First.{first_some_none, first_some_at, first_on_same}
use Rattle.matching.proofs.Words.{has_none, has_ones, has_within, Least}

-- The first placing with the track t on the head h.
abbrev pub with_head : Fits → ℕ → ℕ → ℕ → Option (List ℕ)
with_head f t free h = cond (has free h && fitting f t h) (prepend h (first_on 8 (table (drop (t + 1) f.rows)) (f.tracks - (t + 1)) (without (has free) h))) None

one_track : (rows : List ℕ) (t k : ℕ) (free : ℕ → Bool) → first_on 8 (table (drop t rows)) (suc k) free
    ≡ first_some (λ h. cond (free h && has (get_or rows t 0) h) (prepend h (first_on 8 (table (drop (suc t) rows)) k (without free h))) None) 8
one_track [] zero k free = refl
one_track [] (suc t) k free = refl
one_track (r ∷ rows) zero k free = refl
one_track (r ∷ rows) (suc t) k free = one_track rows t k free

pub onward_some : (f : Fits) (t free : ℕ) → t < f.tracks → onward f t free ≡ first_some (with_head f t free) 8
unfolding onward
onward_some f t free l =
    let k = f.tracks - (t + 1) in
    let e : f.tracks - t ≡ suc k = omega arith in
    ap (λ n. first_on 8 (table (drop t f.rows)) n (has free)) e ∙ one_track f.rows t k (has free)
    ∙ ap (λ u. first_some (λ h. cond (has free h && fitting f t h) (prepend h (first_on 8 (table (drop u f.rows)) k (without (has free) h))) None) 8) (sym (add-one t))

-- All tracks are placed.
pub onward_end : (f : Fits) (t free : ℕ) (heads : List ℕ) → t ≡ f.tracks → Some (drop t (take t heads)) ≡ onward f t free
unfolding onward
onward_end f t free heads e =
    let z : f.tracks - t ≡ 0 = omega arith in ap Some (none_after heads t) ∙ ap (λ n. first_on 8 (table (drop t f.rows)) n (has free)) (sym z)
  where
    none_after : (xs : List ℕ) (n : ℕ) → drop n (take n xs) ≡ []
    none_after xs zero = refl
    none_after [] (suc n) = refl
    none_after (x ∷ xs) (suc n) = none_after xs n

-- The same of the heads of a placing of as many tracks.
pub placed_end : (f : Fits) (t free : ℕ) (p : Placing) → t ≡ f.tracks → p.tracks ≡ f.tracks → Some (drop t (heads_of p)) ≡ onward f t free
placed_end f t free p e w = ap (λ n. Some (drop t (take n p.heads))) (w ∙ sym e) ∙ onward_end f t free p.heads e

-- From the first track on, with all eight heads free.
pub onward_all : (f : Fits) → onward f 0 255 ≡ first_placing_of (fitting f) f.tracks 8
unfolding onward
onward_all f =
    let z : f.tracks - 0 ≡ f.tracks = omega arith in
    ap (λ n. first_on 8 (table f.rows) n (has 255)) z ∙ first_on_same 8 (table f.rows) f.tracks (has 255) (λ h. true) (λ h l. has_ones 8 h l)

-- The answer of the search without the head h, as the first placing with the track t on h.
pub with_head_is : (f : Fits) (t free h rest : ℕ) (o : Option (List ℕ)) → has free h ≡ true → fitting f t h ≡ true
    → ((x : ℕ) → has rest x ≡ without (has free) h x) → onward f (t + 1) rest ≡ o → with_head f t free h ≡ prepend h o
unfolding onward
with_head_is f t free h rest o m r w e =
    let next = λ (set : ℕ → Bool). first_on 8 (table (drop (t + 1) f.rows)) (f.tracks - (t + 1)) set in
    cond-true (has free h && fitting f t h) (prepend h (next (without (has free) h))) None (and_from (has free h) (fitting f t h) m r)
    ∙ ap (prepend h) (ap next (sym (fun_ext w)) ∙ e)

-- A head that is not free or does not fit.
pub with_head_not : (f : Fits) (t free h : ℕ) → (fitting f t h && has free h) ≡ false → with_head f t free h ≡ None
with_head_not f t free h e =
    cond-false (has free h && fitting f t h) (prepend h (first_on 8 (table (drop (t + 1) f.rows)) (f.tracks - (t + 1)) (without (has free) h))) None
    (turn (fitting f t h) (has free h) e)
  where
    turn : (a b : Bool) → (a && b) ≡ false → (b && a) ≡ false
    turn a b k = grind arith

-- The heads of a placing from the track t on, where t gets the head h.
pub drop_set : (heads : List ℕ) (n t h : ℕ) → t < n → t < length heads → drop t (take n (set heads t h)) ≡ h ∷ drop (t + 1) (take n heads)
drop_set heads n t h k l = go heads n t k l ∙ ap (λ u. h ∷ drop u (take n heads)) (sym (add-one t))
  where
    go : (xs : List ℕ) (n t : ℕ) → t < n → t < length xs → drop t (take n (set xs t h)) ≡ h ∷ drop (suc t) (take n xs)
    go [] n t k l = absurd (omega arith)
    go (x ∷ xs) zero t k l = absurd (omega arith)
    go (x ∷ xs) (suc n) zero k l = refl
    go (x ∷ xs) (suc n) (suc t) k l = go xs n t (omega arith) (omega arith)

pub size_taken : (s x rest : ℕ) → x < 8 → has s x ≡ true → ((y : ℕ) → has rest y ≡ without (has s) x y) → size rest + 1 ≡ size s
unfolding size
size_taken s x rest l e w = ap (λ p. count p 8 + 1) (fun_ext w) ∙ count_without (has s) x 8 l e

pub size_all : size 255 ≡ 8
unfolding size
size_all = refl

-- No mark.
pub honest_fresh : (f : Fits) (n : ℕ) → Honest f (replicate n false)
honest_fresh f n = record { hopeless = λ t free _ e. absurd (true≢false (sym e ∙ unmarked n free)) }
  where
    unmarked : (n x : ℕ) → get_or (replicate n false) x false ≡ false
    unmarked zero x = refl
    unmarked (suc n) zero = refl
    unmarked (suc n) (suc x) = unmarked n x

-- One more mark.
pub honest_marked : {f : Fits} {marked : List Bool} (t free : ℕ) → Honest f marked → t + size free ≡ 8 → onward f t free ≡ None → Honest f (set marked free true)
honest_marked {f} {marked} t free h l e = record { hopeless = hopeless }
  where
    hopeless : (u g : ℕ) → u + size g ≡ 8 → get_or (set marked free true) g false ≡ true → onward f u g ≡ None
    hopeless u g m k =
        elim (cases_eq g free) [
          | inl z ↦ let w : u ≡ t = omega (arith, ap size z) in ap (λ v. onward f u v) z ∙ ap (λ v. onward f v free) w ∙ e
          | inr z ↦ h.hopeless u g m (sym (get_or-set_other marked free g true false z) ∙ k)
        ]

-- The heads that are left to try for the track t are free and fit it, and no other head gives a placing.
pub record Trying (f : Fits) (t free left : ℕ) : Type 0 where
  pub fit : (h : ℕ) → has left h ≡ true → (fitting f t h && has free h) ≡ true
  pub tried : (h : ℕ) → has left h ≡ false → with_head f t free h ≡ None

pub begins : (f : Fits) (t free left : ℕ) → ((h : ℕ) → has left h ≡ (fitting f t h && has free h)) → Trying f t free left
begins f t free left e = record { fit = λ h m. sym (e h) ∙ m; tried = λ h m. with_head_not f t free h (sym (e h) ∙ m) }

-- The least head that is left.
pub record Next (f : Fits) (t free h : ℕ) : Type 0 where
  pub low : h < 8
  pub fits : fitting f t h ≡ true
  pub is_free : has free h ≡ true
  pub before : (g : ℕ) → g < h → with_head f t free g ≡ None

pub next : {f : Fits} {t free left h rest : ℕ} → free < 2 ^ 8 → Trying f t free left → Least left h rest → Next f t free h
next {f} {t} {free} {left} {h} w i n =
    let q = and_parts (fitting f t h) (has free h) (i.fit h n.member) in
    record { low = has_within 8 free h w q.1; fits = q.0; is_free = q.1; before = λ g k. i.tried g (n.before g k) }

-- The track t stands on the head h.
pub finds : {f : Fits} {t free h rest : ℕ} (p : Placing) → t < f.tracks → p.tracks ≡ f.tracks → length p.heads ≡ 8 → Next f t free h
    → ((x : ℕ) → has rest x ≡ without (has free) h x) → Some (drop (t + 1) (heads_of p)) ≡ onward f (t + 1) rest
    → Some (drop t (take p.tracks (set p.heads t h))) ≡ onward f t free
finds {f} {t} {free} {h} {rest} p l k z n w e =
    ap Some (drop_set p.heads p.tracks t h (omega arith) (omega (arith, f.few_tracks)))
    ∙ sym (onward_some f t free l
    ∙ first_some_at (with_head f t free) 8 h (h ∷ drop (t + 1) (heads_of p)) n.low n.before
    (with_head_is f t free h rest (Some (drop (t + 1) (heads_of p))) n.is_free n.fits w (sym e)))

-- The head h gives no placing, and is left behind.
pub tries_on : {f : Fits} {t free left h rest left' : ℕ} → Trying f t free left → Next f t free h → ((x : ℕ) → has left' x ≡ without (has left) h x)
    → ((x : ℕ) → has rest x ≡ without (has free) h x) → onward f (t + 1) rest ≡ None → Trying f t free left'
tries_on {f} {t} {free} {left} {h} {rest} {left'} i n others w e = record { fit = fit'; tried = tried' }
  where
    fit' : (x : ℕ) → has left' x ≡ true → (fitting f t x && has free x) ≡ true
    fit' x m = i.fit x (and_parts (has left x) (not (eqb x h)) (sym (others x) ∙ m)).0

    tried' : (x : ℕ) → has left' x ≡ false → with_head f t free x ≡ None
    tried' x m =
        elim (and_cases (has left x) (not (eqb x h)) (sym (others x) ∙ m)) [
          | inl a ↦ i.tried x a
          | inr a ↦ ap (with_head f t free) (eqb-true x h (not-false (eqb x h) a)) ∙ with_head_is f t free h rest None n.is_free n.fits w e
        ]

-- No head is left.
pub gives_up : {f : Fits} {t free left : ℕ} → t < f.tracks → left ≡ 0 → Trying f t free left → onward f t free ≡ None
gives_up {f} {t} {free} l e i = onward_some f t free l ∙ first_some_none (with_head f t free) 8 (λ h _. i.tried h (ap (λ s. has s h) e ∙ has_none h))

-- From the track 0 on all heads of a placing stand.
pub undropped : (o : Option Placing) → option_map heads_of o ≡ option_map (λ p. drop 0 (heads_of p)) o
undropped None = refl
undropped (Some p) = refl
