-- Each cut that is listed keeps the laws of the generator that said it.
use Rattle.std.proofs.Common.{◌≡◌, ℕ, zero, suc, ◌<◌, ◌≤◌, arith, List, [], ◌∷◌, Some, ap}
use Rattle.std.specs.List.{AllByRecursion, AllZip}
use Rattle.cgl_derive.specs.declared.answer.Answer.{Answer}
use Rattle.cgl_derive.specs.declared.answer.Answer.TheVariants.{Nothing, Cut, Wide}
use Rattle.cgl_derive.specs.declared.answer.Candidate.{Candidate}
use Rattle.cgl_gen.specs.CutLaws.{IsCutAt}
use Rattle.cgl_gen.specs.declared.stamped.Stamped.{Stamped}
use Rattle.cgl_gen.specs.Setting.{Setting, IsSetting}
use Rattle.cgl_pool.specs.declared.kept.Kept.{Kept}
use Rattle.cgl_pool.specs.Does.{Does, counts_of, AreRising}
use Rattle.cgl_pool.specs.Listed.{Key, IsIn, kept_by, listed}
use Rattle.cgl_pool.specs.Served.{first_items, served_items}
use Rattle.cgl_pool.proofs.ListingLaws.{listing_of}
use Rattle.cgl_pool.proofs.MemberLaws.{in_filter_map}
use Rattle.cgl_pool.proofs.SortedLaws.{all_in}
use Rattle.cgl_pool.proofs.ServedLaws.{all_append, served_distinct}

kept_says : (key : Key) (answer : Answer) (k : Kept) → kept_by key answer ≡ Some k → answer ≡ Cut k.candidate
kept_says key Nothing k e = cc
kept_says key (Cut c) k e = let f : record { key = key; candidate = c } ≡ k = cc in ap (λ (z : Kept). Cut z.candidate) f
kept_says key Wide k e = cc

abbrev SaysLawful : Setting → Stamped → Type 0
SaysLawful s x = (c : Candidate) → x.answer ≡ Cut c → IsCutAt s.model s.point c

module _ {G : Type 0} (d : Does G) (lawful : (g : G) (s : Setting) (i : ℕ) (c : Candidate) → IsSetting s → i < d.count g s → d.says g s i ≡ Cut c → IsCutAt s.model s.point c) where
  first_lawful : (s : Setting) (g : G) (n : ℕ) → IsSetting s → n ≤ d.count g s → AllByRecursion (SaysLawful s) (first_items d s g n)
  first_lawful s g zero valid h = tt
  first_lawful s g (suc n) valid h = ((λ c said. lawful g s n c valid (omega (arith, h)) said), first_lawful s g n valid (omega (arith, h)))

  items_lawful : (s : Setting) (gens : List G) (served : List ℕ) → IsSetting s → AllZip (λ n count. n ≤ count) served (counts_of d s gens) → AllByRecursion (SaysLawful s) (served_items d s gens served)
  items_lawful s [] served valid w = tt
  items_lawful s (g ∷ gens) [] valid w = tt
  items_lawful s (g ∷ gens) (n ∷ served) valid w = all_append (SaysLawful s) (first_items d s g n) (served_items d s gens served) (first_lawful s g n valid w.0) (items_lawful s gens served valid w.1)

  pub listed_lawful : (s : Setting) (gens : List G) (served : List ℕ) → IsSetting s → AreRising d gens → AllZip (λ n count. n ≤ count) served (counts_of d s gens)
      → (k : Kept) → IsIn k (listed (served_items d s gens served)) → IsCutAt s.model s.point k.candidate
  listed_lawful s gens served valid rising w k is =
      let items = served_items d s gens served in
      let among = (listing_of items (served_distinct d s gens served rising)).members k is in
      let from = in_filter_map (λ x. kept_by x.key x.answer) items k among in
      all_in (SaysLawful s) items from.0 (items_lawful s gens served valid w) from.1 k.candidate (kept_says from.0.key from.0.answer k from.2)
