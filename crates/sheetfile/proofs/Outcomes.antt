-- Checks, chains and ends of outcomes. Assumes nothing.
use Rattle.std.proofs.Common.{◌≡◌, ℕ, ◌≤◌, Bool, true, false, cond, not, eqb, ◌⊎◌, ◌++◌, Ok, Err, Result, refl, ap, inl, inr}
use Rattle.std.proofs.lemmas.Bool.{cond-false, cond-true, ne_eqb, eq-eqb, le-leb, and_from, not_from_true, not_from_false}
use Rattle.sheetfile.specs.declared.fault.Fault.{Fault}
use Rattle.sheetfile.specs.Limits.{within}
use Rattle.sheetfile.specs.Outcomes.{Outcome, stop, check, on, mapped, into, bare, chain}

-- a check that holds, and one that fails
pub held : {T A : Type 0} (e : Fault) (r : Outcome T A) (b : Bool) → b ≡ false → check b e r ≡ r
held e r b h = cond-false b _ _ h

pub caught : {T A : Type 0} (e : Fault) (r : Outcome T A) (b : Bool) → b ≡ true → check b e r ≡ stop e
caught e r b h = cond-true b _ _ h

pub is_not : (a b : ℕ) → a ≡ b → not (eqb a b) ≡ false
is_not a b h = not_from_true (eqb a b) (eq-eqb a b h)

pub isnt : (a b : ℕ) → (a ≡ b → ⊥) → not (eqb a b) ≡ true
isnt a b h = not_from_false (eqb a b) (ne_eqb a b h)

pub is_within : (low high n : ℕ) → low ≤ n → n ≤ high → not (within low high n) ≡ false
is_within low high n h k = not_from_true (within low high n) (and_from _ _ (le-leb low n h) (le-leb n high k))

-- what is whole went past each check
pub passed : {X : Type 0} (b : Bool) (e : Fault) (r : Result X Fault) (a : X) → cond b (Err e) r ≡ Ok a → (b ≡ false) × (r ≡ Ok a)
passed true e r a h = absurd cc
passed false e r a h = (refl, h)

pub chosen : {X : Type 0} (b : Bool) (e : Fault) (x a : X) → cond b (Ok x) (Err e) ≡ Ok a → (b ≡ true) × (x ≡ a)
chosen true e x a h = (refl, cc)
chosen false e x a h = absurd cc

pub went_on : {T A : Type 0} (b : Bool) (e : Fault) (r : Outcome T A) (a : A) → (check b e r).end ≡ Ok a → (b ≡ false) × (check b e r ≡ r) × (r.end ≡ Ok a)
went_on true e r a h = absurd cc
went_on false e r a h = (refl, refl, h)

pub either_way : {T A : Type 0} (b : Bool) (x y : Outcome T A) (a : A) → (cond b x y).end ≡ Ok a → ((b ≡ true) × (cond b x y ≡ x) × (x.end ≡ Ok a)) ⊎ ((b ≡ false) × (cond b x y ≡ y) × (y.end ≡ Ok a))
either_way true x y a h = inl (refl, refl, h)
either_way false x y a h = inr (refl, refl, h)

pub on_ok : {T A B : Type 0} (x : Result A Fault) (f : A → Outcome T B) (b : B) → (on x f).end ≡ Ok b → (a : A) × (x ≡ Ok a) × (on x f ≡ f a) × ((f a).end ≡ Ok b)
on_ok (Ok a) f b h = (a, refl, refl, h)
on_ok (Err e) f b h = absurd cc

pub chain_ok : {T A B : Type 0} (r : Outcome T A) (f : A → Outcome T B) (b : B) → (chain r f).end ≡ Ok b → (a : A) × (r.end ≡ Ok a) × ((chain r f).tests ≡ r.tests ++ (f a).tests) × ((f a).end ≡ Ok b)
chain_ok r f b h = let p = on_ok r.end f b h in (p.0, p.1, ap (λ o. r.tests ++ o.tests) p.2, p.3)

pub mapped_ok : {A B : Type 0} (f : A → B) (x : Result A Fault) (b : B) → mapped f x ≡ Ok b → (a : A) × (x ≡ Ok a) × (f a ≡ b)
mapped_ok f (Ok a) b h = (a, refl, cc)
mapped_ok f (Err e) b h = absurd cc

-- what a whole part's answer says of its outcome
pub told_ok : {A B : Type 0} (f : A → B) (r : Result A Fault) (b : B) → Ok b ≡ mapped f r → (a : A) × (r ≡ Ok a) × (f a ≡ b)
told_ok f (Ok a) b h = (a, refl, cc)
told_ok f (Err e) b h = absurd cc

pub told_err : {A B : Type 0} (f : A → B) (r : Result A Fault) (e : Fault) → Err e ≡ mapped f r → r ≡ Err e
told_err f (Ok a) e h = absurd cc
told_err f (Err d) e h = cc

pub twice : {A B C : Type 0} (f : A → B) (g : B → C) (r : Result A Fault) → mapped g (mapped f r) ≡ mapped (λ a. g (f a)) r
twice f g (Ok a) = refl
twice f g (Err e) = refl

pub bare_into : {T A B : Type 0} (f : A → B) (o : Outcome T A) → bare (into f o) ≡ bare o
bare_into f o = ap (λ r. record { tests = o.tests; end = r }) (twice f (λ b. tt) o.end)

pub mapped_same : {A B : Type 0} (f g : A → B) (r : Result A Fault) → ((a : A) → f a ≡ g a) → mapped f r ≡ mapped g r
mapped_same f g (Ok a) h = ap Ok (h a)
mapped_same f g (Err e) h = refl

pub into_same : {T A B : Type 0} (f g : A → B) (o : Outcome T A) → ((a : A) → f a ≡ g a) → into f o ≡ into g o
into_same f g o h = ap (λ r. record { tests = o.tests; end = r }) (mapped_same f g o.end h)

pub into_into : {T A B C : Type 0} (f : A → B) (g : B → C) (o : Outcome T A) → into g (into f o) ≡ into (λ a. g (f a)) o
into_into f g o = ap (λ r. record { tests = o.tests; end = r }) (twice f g o.end)
