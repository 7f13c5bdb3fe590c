-- What a read makes of the count of failed reads.
use Rattle.std.specs.Prelude.{◌≡◌, ◌⊎◌, ◌≤◌, ℕ, IsErrOf, OnOk, Result}
use Rattle.cgl_outside.specs.declared.errors.FetchError.{FetchError}
use Rattle.cgl_outside.specs.declared.errors.FetchError.TheVariants.{ReadFault}
use Rattle.cgl_outside.specs.Shelf.{risen}

-- the count of failed reads: it rises in a read fault alone, and once
pub record Fetched {T : Type 0} (before now : ℕ) (result : Result T FetchError) (excuse : Type 0) : Type 0 where
  pub ok : OnOk result (now ≡ before)
  pub read_fault : IsErrOf result ReadFault → (now ≡ risen before) ⊎ excuse
  pub reads : IsErrOf result ReadFault ⊎ (now ≡ before)
  pub later : before ≤ now
  pub excused : excuse → now ≡ before
