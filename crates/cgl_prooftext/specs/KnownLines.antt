-- Lines, and what they say.
use Rattle.std.specs.Prelude.{◌≡◌, ℕ, pos, negsuc, true, false, List, [], ◌∷◌, codes}
use Rattle.cgl_model.specs.declared.places.End.TheVariants.{Upper}
use Rattle.cgl_model.specs.declared.places.Place.TheVariants.{Row}
use Rattle.cgl_derive.specs.declared.step.Ref.TheVariants as by
use Rattle.cgl_prooftext.specs.declared.record.Record.TheVariants as is
use Rattle.cgl_prooftext.specs.KnownProof.{known_cut, known_lin_right}
use Rattle.cgl_prooftext.specs.LineResult.{LineResult, IsLine, NotOfForm, TooLarge, line_result}

abbrev pub Reads : List ℕ → LineResult → Type 0
Reads line what = line_result false line ≡ what

pub record KnownLines : Type 0 where
  pub format : Reads (codes "cgl-proof 2") (IsLine is.Format2)
  pub cuts : Reads (codes "cuts 0") (IsLine (is.Cuts 0))
  pub cut : Reads (codes "cut 1 0 -1 >= -1") (IsLine (is.Cut known_cut))
  pub lin : Reads (codes "lin 2 2 g0 2 r0U 2 1 0 -1 >= -1") (IsLine (is.Lin known_lin_right))
  pub split : Reads (codes "split 1 0 1 1 1 0 -1 >= -1") (IsLine (is.Split (record { p = (0, pos 1) ∷ []; p0 = pos 1; claim = known_cut })))
  pub round : Reads (codes "round 3 r1U 3 0 -1 1 -1 2 -1 >= -1") (IsLine (is.Round (record { from = by.Side (Row 1 Upper); g = pos 3; claim = record { terms = (0, negsuc 0) ∷ (1, negsuc 0) ∷ (2, negsuc 0) ∷ []; rhs = negsuc 0 } })))
  pub knap : Reads (codes "knap r0U 2 1 -1 2 1 >= 0") (IsLine (is.Knap (record { from = by.Side (Row 0 Upper); claim = record { terms = (1, negsuc 0) ∷ (2, pos 1) ∷ []; rhs = pos 0 } })))
  pub shared : line_result true (codes "lin 1 1 m0 1 1 0 -1 >= -1") ≡ IsLine (is.Lin (record { refs = (by.Shared 0, pos 1) ∷ []; q = pos 1; claim = known_cut }))
  pub «end» : Reads (codes "end") (IsLine is.End)

pub record KnownFaults : Type 0 where
  pub shared : Reads (codes "lin 1 1 m0 1 1 0 -1 >= -1") NotOfForm
  pub minus_zero : Reads (codes "cut 1 0 -0 >= -1") NotOfForm
  pub zero : Reads (codes "cut 1 0 0 >= -1") NotOfForm
  pub falling : Reads (codes "cut 2 1 1 0 1 >= -1") NotOfForm
  pub equal : Reads (codes "cut 2 1 1 1 1 >= -1") NotOfForm
  pub two_spaces : Reads (codes "cut 1  0 -1 >= -1") NotOfForm
  pub trailing_space : Reads (codes "cut 1 0 -1 >= -1 ") NotOfForm
  pub leading_zero : Reads (codes "cut 1 00 -1 >= -1") NotOfForm
  pub plus : Reads (codes "cut 1 0 +1 >= -1") NotOfForm
  pub no_lemmas : Reads (codes "lemmas 0") NotOfForm
  pub no_end : Reads (codes "round 3 r1 1 0 -1 >= -1") NotOfForm
  pub empty : Reads [] NotOfForm
  pub cut_short : Reads (codes "cut 4294967295 0 1") NotOfForm
  pub count : Reads (codes "cuts 4294967296") TooLarge
  pub count_first : Reads (codes "cut 4294967296 x") TooLarge
  pub form_first : Reads (codes "cut x 4294967296") NotOfForm
  pub multiplier : Reads (codes "lin 1 1 g0 170141183460469231731687303715884105728 0 >= 1") TooLarge
  pub least : Reads (codes "cut 0 >= -170141183460469231731687303715884105728") TooLarge
  pub reference : Reads (codes "knap r4294967296L 0 >= 1") TooLarge
  pub form_over_size : Reads (codes "knap r4294967296L 0 > 1") NotOfForm
  pub falling_over_size : Reads (codes "cut 2 4294967297 1 4294967296 1 >= 1") NotOfForm
  pub rising_too_large : Reads (codes "cut 2 4294967296 1 4294967297 1 >= 1") TooLarge
