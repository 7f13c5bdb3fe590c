-- First failures of known knapsack steps, and first refusals of known books: by computation.
use Rattle.std.proofs.Common.{pos, negsuc, ◌^◌, [], ◌∷◌, refl}
use Rattle.cgl_num.specs.Gcd.{gcd, gcd_of}
use Rattle.cgl_num.specs.Fraction.{lowest}
use Rattle.cgl_model.specs.declared.places.End.TheVariants.{Lower, Upper}
use Rattle.cgl_model.specs.IntegerForm.{forms_of, row_shape}
use Rattle.cgl_derive.specs.declared.step.Ref.TheVariants as by
use Rattle.cgl_derive.specs.declared.step.Step.{roll-Step, out-Step}
use Rattle.cgl_derive.specs.Binary.{holds_at_bits, holds_of_all, meets_at}
use Rattle.cgl_derive.specs.KnownBooks.{beyond_book, circular_book, lacking_book, plain_book, shared_book, three_binaries}
use Rattle.cgl_derive.specs.KnownDerivations.{at_least, at_most_one, end_of_row, infeasible, one_column}
use Rattle.cgl_derive.specs.KnownKnapsacks.{at_most, both_signs, by_knap, complemented, end_of_first, enough, four_weights, great_multiple, lifted_cover, lifted_too_far, one_of_two, turned}
use Rattle.cgl_check.specs.Accepted.{IsAccepted}
use Rattle.cgl_check.specs.declared.refusal.EntryPlace.TheVariants.{Cut, Shared}
use Rattle.cgl_check.specs.FirstFailure.{failure_within}
use Rattle.cgl_check.specs.KnownFailures.{FailsAt, Passes, step}
use Rattle.cgl_check.specs.KnownRefusals.{IsRefused, cut_beyond, wrong_cut, wrong_twice}

-- ---- knapsack steps

pub lifted : Passes four_weights [] (by_knap (end_of_row Upper) lifted_cover) lifted_cover
unfolding failure_within out-Step denote.Hole.Carrier.out roll-Step denote.Hole.Carrier.roll forms_of row_shape gcd gcd_of lowest holds_at_bits holds_of_all meets_at
lifted = refl

pub both_literals : Passes both_signs [] (by_knap (end_of_row Upper) complemented) complemented
unfolding failure_within out-Step denote.Hole.Carrier.out roll-Step denote.Hole.Carrier.roll forms_of row_shape gcd gcd_of lowest holds_at_bits holds_of_all meets_at
both_literals = refl

pub other_kind : Passes enough [] (by_knap (end_of_row Lower) one_of_two) one_of_two
unfolding failure_within out-Step denote.Hole.Carrier.out roll-Step denote.Hole.Carrier.roll forms_of row_shape gcd gcd_of lowest holds_at_bits holds_of_all meets_at
other_kind = refl

pub full_table : Passes four_weights (at_most (negsuc 49999997) ∷ []) (by_knap (by.Shared 0) at_most_one) at_most_one
unfolding failure_within out-Step denote.Hole.Carrier.out roll-Step denote.Hole.Carrier.roll forms_of row_shape gcd gcd_of lowest holds_at_bits holds_of_all meets_at
full_table = refl

pub too_far : FailsAt (step 0) 8 four_weights [] (by_knap (end_of_row Upper) lifted_too_far) lifted_too_far
unfolding failure_within out-Step denote.Hole.Carrier.out roll-Step denote.Hole.Carrier.roll forms_of row_shape gcd gcd_of lowest holds_at_bits holds_of_all meets_at
too_far = refl

pub not_its_columns : FailsAt (step 0) 7 four_weights [] (by_knap (end_of_first Upper) lifted_cover) lifted_cover
unfolding failure_within out-Step denote.Hole.Carrier.out roll-Step denote.Hole.Carrier.roll forms_of row_shape gcd gcd_of lowest holds_at_bits holds_of_all meets_at
not_its_columns = refl

pub not_its_sign : FailsAt (step 0) 7 both_signs [] (by_knap (end_of_row Upper) turned) turned
unfolding failure_within out-Step denote.Hole.Carrier.out roll-Step denote.Hole.Carrier.roll forms_of row_shape gcd gcd_of lowest holds_at_bits holds_of_all meets_at
not_its_sign = refl

pub not_binary : FailsAt (step 0) 7 one_column [] (by_knap (end_of_row Upper) at_most_one) at_most_one
unfolding failure_within out-Step denote.Hole.Carrier.out roll-Step denote.Hole.Carrier.roll forms_of row_shape gcd gcd_of lowest holds_at_bits holds_of_all meets_at
not_binary = refl

pub no_room : FailsAt (step 0) 7 four_weights (at_least (pos 1) (pos 2) ∷ []) (by_knap (by.Shared 0) (at_least (pos 1) (pos 1))) (at_least (pos 1) (pos 1))
unfolding failure_within out-Step denote.Hole.Carrier.out roll-Step denote.Hole.Carrier.roll forms_of row_shape gcd gcd_of lowest holds_at_bits holds_of_all meets_at
no_room = refl

pub too_large : FailsAt (step 0) 7 four_weights (at_most (negsuc 49999998) ∷ []) (by_knap (by.Shared 0) at_most_one) at_most_one
unfolding failure_within out-Step denote.Hole.Carrier.out roll-Step denote.Hole.Carrier.roll forms_of row_shape gcd gcd_of lowest holds_at_bits holds_of_all meets_at
too_large = refl

pub wide_from : FailsAt (step 0) 7 four_weights (great_multiple (pos (2 ^ 126)) ∷ []) (by_knap (by.Shared 0) (at_least (pos 1) (pos 1))) (at_least (pos 1) (pos 1))
unfolding failure_within out-Step denote.Hole.Carrier.out roll-Step denote.Hole.Carrier.roll forms_of row_shape gcd gcd_of lowest holds_at_bits holds_of_all meets_at
wide_from = refl

pub wide_claim : FailsAt (step 0) 7 four_weights (at_least (pos 1) (pos 1) ∷ []) (by_knap (by.Shared 0) (great_multiple (pos (2 ^ 126)))) (great_multiple (pos (2 ^ 126)))
unfolding failure_within out-Step denote.Hole.Carrier.out roll-Step denote.Hole.Carrier.roll forms_of row_shape gcd gcd_of lowest holds_at_bits holds_of_all meets_at
wide_claim = refl

pub no_reference : FailsAt (step 0) 1 four_weights [] (by_knap (by.Step 0) lifted_cover) lifted_cover
unfolding failure_within out-Step denote.Hole.Carrier.out roll-Step denote.Hole.Carrier.roll forms_of row_shape gcd gcd_of lowest holds_at_bits holds_of_all meets_at
no_reference = refl

-- ---- books

pub plain : IsAccepted three_binaries plain_book
unfolding failure_within out-Step denote.Hole.Carrier.out roll-Step denote.Hole.Carrier.roll forms_of row_shape gcd gcd_of lowest
plain = refl

pub shared_once : IsAccepted three_binaries shared_book
unfolding failure_within out-Step denote.Hole.Carrier.out roll-Step denote.Hole.Carrier.roll forms_of row_shape gcd gcd_of lowest
shared_once = refl

pub lacking : IsRefused (Cut 0) (step 0) 1 three_binaries lacking_book
unfolding failure_within out-Step denote.Hole.Carrier.out roll-Step denote.Hole.Carrier.roll forms_of row_shape gcd gcd_of lowest
lacking = refl

pub circular : IsRefused (Shared 0) (step 0) 1 three_binaries circular_book
unfolding failure_within out-Step denote.Hole.Carrier.out roll-Step denote.Hole.Carrier.roll forms_of row_shape gcd gcd_of lowest
circular = refl

pub column_beyond : IsRefused (Shared 0) [] 1 infeasible beyond_book
unfolding failure_within out-Step denote.Hole.Carrier.out roll-Step denote.Hole.Carrier.roll forms_of row_shape gcd gcd_of lowest
column_beyond = refl

pub cut_column_beyond : IsRefused (Cut 0) [] 1 infeasible cut_beyond
unfolding failure_within out-Step denote.Hole.Carrier.out roll-Step denote.Hole.Carrier.roll forms_of row_shape gcd gcd_of lowest
cut_column_beyond = refl

pub shared_first : IsRefused (Shared 1) (step 0) 1 three_binaries wrong_twice
unfolding failure_within out-Step denote.Hole.Carrier.out roll-Step denote.Hole.Carrier.roll forms_of row_shape gcd gcd_of lowest
shared_first = refl

pub second_cut : IsRefused (Cut 1) (step 0) 1 three_binaries wrong_cut
unfolding failure_within out-Step denote.Hole.Carrier.out roll-Step denote.Hole.Carrier.roll forms_of row_shape gcd gcd_of lowest
second_cut = refl
