-- What is listed of the answers of a task.
use Rattle.std.proofs.Common.{◌≡◌, ℕ, ◌+◌, ◌≤◌, List, [], ◌∷◌, Option, Some, None, sym, ap, ◌∙◌, arith}
use Rattle.std.specs.List.{AllByRecursion, AllZip}
use Rattle.cgl_gen.specs.declared.stamped.Stamped.{Stamped}
use Rattle.cgl_gen.specs.CutLaws.{IsCutAt}
use Rattle.cgl_gen.specs.Setting.{Setting}
use Rattle.cgl_pool.specs.declared.any_gen.AnyGen.{AnyGen}
use Rattle.cgl_pool.specs.declared.kept.Kept.{Kept}
use Rattle.cgl_pool.specs.Does.{counts_of}
use Rattle.cgl_pool.specs.Generators.{any, any_lawful}
use Rattle.cgl_pool.specs.Laws.{ListsTask, SameAnswers}
use Rattle.cgl_pool.specs.Listed.{AreWideKeys, HaveDistinctKeys, IsListing, cuts_among, kept_by, listed, wides}
use Rattle.cgl_pool.specs.Served.{served_items}
use Rattle.cgl_pool.specs.Task.{IsTask, Task, answers, listed_cuts, wide_keys}
use Rattle.cgl_pool.specs.Turns.{capped_from, first_turns, served_by}
use Rattle.cgl_pool.proofs.ListedLaws.{listed_lawful}
use Rattle.cgl_pool.proofs.ListingLaws.{listing_of, same_listing}
use Rattle.cgl_pool.proofs.MemberLaws.{same_filtered}
use Rattle.cgl_pool.proofs.SortedLaws.{in_all}
use Rattle.cgl_pool.proofs.ServedLaws.{served_distinct}
use Rattle.cgl_pool.proofs.WideLaws.{same_wides, wide_keys_are}

-- ---- no more items are served than there are

abbrev Within : List ℕ → List ℕ → Type 0
Within served counts = AllZip (λ n count. n ≤ count) served counts

all_within : (counts : List ℕ) → Within counts counts
all_within [] = tt
all_within (count ∷ counts) = (omega arith, all_within counts)

capped_within : (g : ℕ) (turns counts : List ℕ) → Within (capped_from g turns counts) counts
capped_within g turns [] = tt
capped_within g turns (count ∷ counts) = (omega arith, capped_within (g + 1) turns counts)

served_within : (order : List ℕ) (stop : Option ℕ) (counts : List ℕ) → Within (served_by order stop counts) counts
served_within order None counts = all_within counts
served_within order (Some n) counts = capped_within 0 (first_turns order n) counts

-- ---- answers

pub answers_distinct : (t : Task) → IsTask t → HaveDistinctKeys (answers t)
unfolding answers
answers_distinct t is = served_distinct any t.setting t.generators (served_by t.order t.stop (counts_of any t.setting t.generators)) is.rising

cuts_lawful : (t : Task) → IsTask t → AllByRecursion (λ k. IsCutAt t.setting.model t.setting.point k.candidate) (listed_cuts t)
unfolding answers listed_cuts
cuts_lawful t is =
    let counts = counts_of any t.setting t.generators in
    in_all (λ (k : Kept). IsCutAt t.setting.model t.setting.point k.candidate) _ (listed_lawful any any_lawful t.setting t.generators (served_by t.order t.stop counts) is.setting is.rising (served_within t.order t.stop counts))

listing_is : (t : Task) → IsTask t → IsListing (cuts_among (answers t)) (listed_cuts t)
unfolding listed_cuts
listing_is t is = listing_of (answers t) (answers_distinct t is)

wides_are : (t : Task) → AreWideKeys (answers t) (wide_keys t)
unfolding wide_keys
wides_are t = wide_keys_are (answers t)

pub same_listed : (a b : List Stamped) → HaveDistinctKeys a → HaveDistinctKeys b → SameAnswers a b → listed a ≡ listed b
same_listed a b da db same =
    same_listing a b da db (same_filtered (λ s. kept_by s.key s.answer) a b same.to) (same_filtered (λ s. kept_by s.key s.answer) b a same.from)

any_order : (t : Task) (given : List Stamped) → IsTask t → HaveDistinctKeys given → SameAnswers given (answers t) → listed given ≡ listed_cuts t
unfolding listed_cuts
any_order t given is d same = same_listed given (answers t) d (answers_distinct t is) same

any_wide_order : (t : Task) (given : List Stamped) → SameAnswers given (answers t) → wides given ≡ wide_keys t
unfolding wide_keys
any_wide_order t given same = same_wides given (answers t) same

-- ---- without a stop

abbrev all_of : Setting → List AnyGen → List Stamped
all_of s gens = served_items any s gens (counts_of any s gens)

pub all_answers : (t : Task) → t.stop ≡ None → answers t ≡ all_of t.setting t.generators
unfolding answers
all_answers t none = ap (λ stop. served_items any t.setting t.generators (served_by t.order stop (counts_of any t.setting t.generators))) none

any_turns : (t u : Task) → t.setting ≡ u.setting → t.generators ≡ u.generators → t.stop ≡ None → u.stop ≡ None → answers t ≡ answers u
any_turns t u setting generators none other =
    all_answers t none ∙ ap (λ s. all_of s t.generators) setting ∙ ap (all_of u.setting) generators ∙ sym (all_answers u other)

pub lists_task : ListsTask
lists_task = record {
  distinct = answers_distinct;
  cuts = cuts_lawful;
  listing = listing_is;
  keys = wides_are;
  cuts_order = any_order;
  keys_order = any_wide_order;
  turns = any_turns;
}
