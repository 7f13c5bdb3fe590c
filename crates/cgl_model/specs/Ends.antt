-- The ends of a row, by its kind, its right side and its range.
use Rattle.std.specs.Prelude.{ℤ, pos, ◌+ℤ◌, ◌-ℤ◌, int_lt, unsigned_abs, Option, Some, None, if◌then◌else◌}
use Rattle.cgl_model.specs.declared.mip.RowKind.{RowKind}
use Rattle.cgl_model.specs.declared.mip.RowKind.TheVariants.{N, L, G, E}

abbrev pub magnitude : ℤ → ℤ
magnitude z = pos (unsigned_abs z)

-- none is an infinite end
abbrev pub lower_end : RowKind → ℤ → Option ℤ → Option ℤ
lower_end N b range = None
lower_end L b None = None
lower_end L b (Some r) = Some (b -ℤ magnitude r)
lower_end G b range = Some b
lower_end E b None = Some b
lower_end E b (Some r) = if int_lt r (pos 0) then Some (b -ℤ magnitude r) else Some b

abbrev pub upper_end : RowKind → ℤ → Option ℤ → Option ℤ
upper_end N b range = None
upper_end L b range = Some b
upper_end G b None = None
upper_end G b (Some r) = Some (b +ℤ magnitude r)
upper_end E b None = Some b
upper_end E b (Some r) = if int_lt r (pos 0) then Some b else Some (b +ℤ magnitude r)
