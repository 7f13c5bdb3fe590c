-- What callers may use of the cuts that are listed and of the keys of the answers that are too wide.
use Rattle.std.specs.Prelude.{◌≡◌, List, None}
use Rattle.std.specs.List.{AllByRecursion}
use Rattle.std.specs.declared.cmp.Ordering.TheVariants.{Equal}
use Rattle.cgl_model.specs.declared.linear.Ineq.{Ineq}
use Rattle.cgl_gen.specs.declared.stamped.Stamped.{Stamped}
use Rattle.cgl_gen.specs.CutLaws.{IsCutAt}
use Rattle.cgl_pool.specs.declared.kept.Kept.{Kept}
use Rattle.cgl_pool.specs.InequalityOrder.{ineq_cmp}
use Rattle.cgl_pool.specs.Listed.{AreWideKeys, HaveDistinctKeys, IsIn, IsListing, Key, cuts_among, listed, wides}
use Rattle.cgl_pool.specs.Task.{IsTask, Task, answers, listed_cuts, wide_keys}

-- answers have the same members
pub record SameAnswers (a b : List Stamped) : Type 0 where
  pub to : (s : Stamped) → IsIn s a → IsIn s b
  pub from : (s : Stamped) → IsIn s b → IsIn s a

-- of answers under keys that differ, each inequality that occurs is listed once, under its least key, in rising order;
-- there is one such list, whatever the order of the answers. Inequalities that compare as equal are equal.
pub record ListsCuts : Type 0 where
  pub listing : (given : List Stamped) → HaveDistinctKeys given → IsListing (cuts_among given) (listed given)
  pub one : (given : List Stamped) (kept : List Kept) → HaveDistinctKeys given → IsListing (cuts_among given) kept → kept ≡ listed given
  pub order : (a b : List Stamped) → HaveDistinctKeys a → HaveDistinctKeys b → SameAnswers a b → listed a ≡ listed b
  pub equal : (a b : Ineq) → ineq_cmp a b ≡ Equal → a ≡ b

-- the keys of the answers that are too wide are listed once each, and no other, in rising order; there is one such list,
-- whatever the order of the answers
pub record ListsWideKeys : Type 0 where
  pub keys : (given : List Stamped) → AreWideKeys given (wides given)
  pub one : (given : List Stamped) (keys : List Key) → AreWideKeys given keys → keys ≡ wides given
  pub order : (a b : List Stamped) → SameAnswers a b → wides a ≡ wides b

-- what is listed of the answers of a task, whose keys differ: each cut keeps the laws of a generator; the same is listed
-- for each order of the answers; and without a stop the order of the turns makes no difference
pub record ListsTask : Type 0 where
  pub distinct : (t : Task) → IsTask t → HaveDistinctKeys (answers t)
  pub cuts : (t : Task) → IsTask t → AllByRecursion (λ k. IsCutAt t.setting.model t.setting.point k.candidate) (listed_cuts t)
  pub listing : (t : Task) → IsTask t → IsListing (cuts_among (answers t)) (listed_cuts t)
  pub keys : (t : Task) → AreWideKeys (answers t) (wide_keys t)
  pub cuts_order : (t : Task) (given : List Stamped) → IsTask t → HaveDistinctKeys given → SameAnswers given (answers t) → listed given ≡ listed_cuts t
  pub keys_order : (t : Task) (given : List Stamped) → SameAnswers given (answers t) → wides given ≡ wide_keys t
  pub turns : (t u : Task) → t.setting ≡ u.setting → t.generators ≡ u.generators → t.stop ≡ None → u.stop ≡ None → answers t ≡ answers u
