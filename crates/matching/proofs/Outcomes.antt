-- What holds of the answer holds of an outcome that says it.
use Rattle.std.proofs.Common.{◌≡◌, ℕ, ◌<◌, List, get_or, None, Option, sym, ap, ◌∙◌, subst}
use Rattle.std.proofs.lemmas.Bool.{true≢false}
use Rattle.matching.specs.declared.fits.Fits.{Fits}
use Rattle.matching.specs.Sets.{has}
use Rattle.matching.specs.Search.{first_placing_of}
use Rattle.matching.specs.Answer.{Answer, said, answer}
use Rattle.matching.specs.Meaning.{fitting}
use Rattle.matching.specs.Promises.{answer_for, RightFor, OnlyRight, SameRenamed, Local}
use Rattle.matching.proofs.Words.{has_none, has_past}
use Rattle.matching.proofs.Rightness.{none_found, answer_right, answer_only}
use Rattle.matching.proofs.Local.{answer_local}
use Rattle.matching.proofs.Renaming.{answer_unmoved}
use Rattle.matching.proofs.Cut.{answer_cut}

-- A track that fits no head leaves no placing.
pub idle_none : (f : Fits) (N t : ℕ) → t < f.tracks → get_or f.rows t 0 ≡ 0 → first_placing_of (fitting f) f.tracks N ≡ None
idle_none f N t l e =
    none_found (fitting f) f.tracks N (λ hs p. true≢false (sym (p.fit t l) ∙ ap (λ r. has r (get_or hs t 0)) e ∙ has_none (get_or hs t 0)))

-- What is said by a search on eight heads is the answer for the table.
pub said_for : (f : Fits) (o : Option (List ℕ)) → o ≡ first_placing_of (fitting f) f.tracks 8 → said (fitting f) f.tracks 8 o ≡ answer_for f
unfolding answer
said_for f o e =
    ap (said (fitting f) f.tracks 8) e ∙ answer_cut f.heads 8 f.few_heads (fitting f) f.tracks (λ t h _ m. has_past f.heads (get_or f.rows t 0) h (f.within t) m)

-- All that an outcome promises, of what it says.
pub promised : (f : Fits) (a : Answer) → a ≡ answer_for f → record {
  is : a ≡ answer_for f;
  right : RightFor f a;
  only : OnlyRight f a;
  unmoved : SameRenamed f a;
  local : Local f a;
}
promised f a e =
    record {
      is = e;
      right = subst (RightFor f) (sym e) (answer_right (fitting f) f.tracks f.heads);
      only = λ b r. answer_only (fitting f) f.tracks f.heads b r ∙ sym e;
      unmoved = subst (SameRenamed f) (sym e) (λ fits' to from r. answer_unmoved (fitting f) fits' f.tracks f.heads to from r);
      local = λ fits' s. e ∙ answer_local (fitting f) fits' f.tracks f.heads s;
    }
