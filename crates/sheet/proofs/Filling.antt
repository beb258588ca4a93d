-- Reading values into a list from its start, one more at a time. Assumes nothing.
use Rattle.std.proofs.Common.{◌≡◌, ℕ, suc, ◌+◌, ◌-◌, ◌*◌, ◌^◌, ◌<◌, ◌≤◌, List, ◌∷◌, length, take, drop, set, Some, None, Ok, Err, sym, ap, ◌∙◌, suc-mul, arith}
use Rattle.std.proofs.lemmas.List.{length-drop, length-set}
use Rattle.kinds.specs.Codings.{Coding}
use Rattle.sheetfile.specs.declared.fault.Cause.{Cause}
use Rattle.sheetfile.specs.declared.fault.Fault.{Fault}
use Rattle.sheetfile.specs.Card.{fault}
use Rattle.sheetfile.specs.Outcomes.{bare}
use Rattle.sheetfile.specs.Values.{one_value, values_read}
use Rattle.sheetfile.proofs.Outcomes.{twice}
use Rattle.sheetfile.proofs.Values.{values_some, values_none}
use Rattle.sheet.specs.Stored.{Left}
use Rattle.sheet.proofs.Puts.{Same, same_last, same_test, stopped}

-- what is left of so many pieces, with one less
pub less_long : (n i w : ℕ) (rest : List ℕ) → i < n → (n - i) * w ≤ length rest → (n - (i + 1)) * w ≤ length (drop w rest)
less_long n i w rest l long =
    let less = n - (i + 1) in
    let e : n - i ≡ suc less = omega arith in
    omega (arith, long, ap (λ m. m * w) e, suc-mul less w, length-drop w rest)

module _ {T : Type 0} (cause : Cause) (k : Coding T) (at : ℕ) (body : List ℕ) (s₀ : List T) where
  abbrev n : ℕ
  n = length s₀

  -- every place in the values is below 2 ^ 64
  abbrev pub Near : Type 0
  Near = at + n * k.width < 2 ^ 64

  -- what is left comes to the same as the whole
  pub record Filling (i place : ℕ) (rest : List ℕ) (s : List T) : Type 0 where
    pub size : length s ≡ n
    pub there : Near → i ≤ n → place + (n - i) * k.width ≡ at + n * k.width
    pub same : Near → Same (bare (values_read cause k n at body)) 0 s₀ (bare (values_read cause k (n - i) place rest)) i s

  module _ {i place : ℕ} {rest : List ℕ} {s : List T} (h : Filling i place rest s) where
    -- one value more, from the bytes in front
    pub fill_next : i < n → (x : T) (front behind : List ℕ) → front ≡ take k.width rest → behind ≡ drop k.width rest → Some x ≡ k.reads front → (p : ℕ) → (place + k.width < 2 ^ 64 → p ≡ place + k.width) → Filling (i + 1) p behind (set s i x)
    fill_next l x front behind is goes reads p next =
        let w = k.width in
        let less = n - (i + 1) in
        let e : n - i ≡ suc less = omega arith in
        let on : Near → p ≡ place + w = λ near. next (omega (arith, h.there near (omega arith), ap (λ m. m * w) e, suc-mul less w)) in
        record {
          size = length-set s i x ∙ h.size;
          there = λ near m. omega (arith, on near, h.there near (omega arith), ap (λ m. m * w) e, suc-mul less w);
          same = λ near.
              let more = values_read cause k less p behind in
              let step : bare (values_read cause k (n - i) place rest) ≡ record { tests = x ∷ more.tests; end = (bare more).end } =
              ap bare (values_some cause k (n - i) less place rest e
              ∙ ap (λ q. one_value cause (k.reads (take w rest)) place (values_read cause k less q (drop w rest))) (sym (on near))
              ∙ ap (λ ys. one_value cause (k.reads (take w rest)) place (values_read cause k less p ys)) (sym goes)
              ∙ ap (λ o. one_value cause o place more) (ap k.reads (sym is) ∙ sym reads))
              ∙ ap (λ r. record { tests = x ∷ more.tests; end = r }) (twice (λ ts. x ∷ ts) (λ ts. tt) more.end) in
              same_test x (h.same near) (omega (arith, h.size)) step;
        }

    -- no value in the bytes in front
    pub fill_break : Near → i < n → (d : Fault) → d ≡ fault cause place → (front : List ℕ) → front ≡ take k.width rest → None ≡ k.reads front → Left (bare (values_read cause k n at body)) 0 s₀ (Err d) s
    fill_break near l d is front taken reads =
        let less = n - (i + 1) in
        let e : n - i ≡ suc less = omega arith in
        same_last _ (h.same near) (stopped d is (ap bare (values_some cause k (n - i) less place rest e ∙ ap (λ o. one_value cause o place (values_read cause k less (place + k.width) (drop k.width rest))) (ap k.reads (sym taken) ∙ sym reads))))

    pub fill_end : Near → n ≤ i → Left (bare (values_read cause k n at body)) 0 s₀ (Ok tt) s
    fill_end near l = same_last _ (h.same near) (ap bare (values_none cause k (n - i) place rest (omega arith)))
