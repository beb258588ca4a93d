use Rattle.std.proofs.Common.{◌≡◌, Bool, true, false, pow_mono, rules}
use Rattle.std.proofs.lemmas.Iterator.{first_from_find, YieldsList-from_range, YieldsList-from_map}
use borrow.Author.Tests.{tests}
use Rattle.matching.specs.declared.set.SmallSet.{SmallSet}
use Rattle.matching.specs.Sets.{has}
use Rattle.matching.specs.Short.{is_short_set}
use Rattle.matching.specs.Meaning.{fitting}
use Rattle.matching.proofs.Finding.{of_number, least_found}
use Rattle.matching.proofs.fits.Fits.least_short.Goals as goal

pub unwrap-requires : goal.unwrap-requires
unwrap-requires c =
    let f = c.args.self.now in
    let p : SmallSet → Bool = λ set. is_short_set (fitting f) 8 8 (has set.number) in
    let sets = YieldsList-from_map _ of_number (YieldsList-from_range 0 256 256 (search rules) (search rules)) (search rules) (λ x r q k. search (rules, tests)) in
    let first = first_from_find _ _ c.find.result (λ set. p set ≡ true) (λ set. p set ≡ false) c.find.ensures.ran sets (λ x q k. search (rules, tests)) (λ x q k. search (rules, tests)) in
    let r = least_found (fitting f) f.tracks 8 8 256 f.few_tracks (pow_mono {i = f.tracks} {j = 8} f.few_tracks) c.requires c.find.result first in
    r.0

pub returns : goal.returns
returns c =
    let f = c.args.self.now in
    let p : SmallSet → Bool = λ set. is_short_set (fitting f) 8 8 (has set.number) in
    let sets = YieldsList-from_map _ of_number (YieldsList-from_range 0 256 256 (search rules) (search rules)) (search rules) (λ x r q k. search (rules, tests)) in
    let first = first_from_find _ _ c.find.result (λ set. p set ≡ true) (λ set. p set ≡ false) c.find.ensures.ran sets (λ x q k. search (rules, tests)) (λ x q k. search (rules, tests)) in
    let r = least_found (fitting f) f.tracks 8 8 256 f.few_tracks (pow_mono {i = f.tracks} {j = 8} f.few_tracks) c.requires c.find.result first in
    r.1 c.unwrap.result c.unwrap.ensures
