-- What generators work on, and what is listed of their answers.
use Rattle.std.specs.Prelude.{ℕ, List, Option}
use Rattle.cgl_gen.specs.declared.stamped.Stamped.{Stamped}
use Rattle.cgl_gen.specs.Setting.{Setting, IsSetting}
use Rattle.cgl_pool.specs.declared.any_gen.AnyGen.{AnyGen}
use Rattle.cgl_pool.specs.declared.kept.Kept.{Kept}
use Rattle.cgl_pool.specs.Does.{AreRising, counts_of}
use Rattle.cgl_pool.specs.Generators.{any}
use Rattle.cgl_pool.specs.Listed.{Key, listed, wides}
use Rattle.cgl_pool.specs.Served.{served_items}
use Rattle.cgl_pool.specs.Turns.{served_by}

-- the generators serve their items in turns, in this order of their places, used again and again: all items, or those of
-- the first turns, of which there are `stop`
pub record Task : Type 0 where
  pub setting : Setting
  pub generators : List AnyGen
  pub order : List ℕ
  pub stop : Option ℕ

-- the generators' numbers rise
pub record IsTask (t : Task) : Type 0 where
  pub setting : IsSetting t.setting
  pub rising : AreRising any t.generators

-- the answers to the items that are served
unfoldable pub answers : Task → List Stamped
answers t = served_items any t.setting t.generators (served_by t.order t.stop (counts_of any t.setting t.generators))

-- the cuts among the answers, each inequality once under its least key, in the order of inequalities
unfoldable pub listed_cuts : Task → List Kept
listed_cuts t = listed (answers t)

-- the keys of the answers that are too wide, rising
unfoldable pub wide_keys : Task → List Key
wide_keys t = wides (answers t)
