use Rattle.std.proofs.Common.{rules}
use Rattle.cgl_num.proofs.number_text.parse.Goals as goal

pub unsigned-body-requires : goal.unsigned-body-requires
unsigned-body-requires c = search rules

pub letter_place-place-requires : goal.letter_place-place-requires
letter_place-place-requires c = search rules

pub exponent-requires : goal.exponent-requires
exponent-requires c = search rules

pub returns-in_default-clause-none : goal.returns-in_default-clause-none
returns-in_default-clause-none c = search rules

pub returns-in_default-clause-some : goal.returns-in_default-clause-some
returns-in_default-clause-some c = search rules

pub slice_bounds-mantissa-end : goal.slice_bounds-mantissa-end
slice_bounds-mantissa-end c = search rules

pub point_place-point-requires : goal.point_place-point-requires
point_place-point-requires c = search rules

pub count_around-requires : goal.count_around-requires
count_around-requires c = search rules

pub returns-in_default-count_around-clause-none : goal.returns-in_default-count_around-clause-none
returns-in_default-count_around-clause-none c = search rules

pub returns-in_default-count_around-clause-some : goal.returns-in_default-count_around-clause-some
returns-in_default-count_around-clause-some c = search rules

pub behind-requires : goal.behind-requires
behind-requires c = search rules

pub scale_of-scale-requires : goal.scale_of-scale-requires
scale_of-scale-requires c = search rules

pub is_negative-requires : goal.is_negative-requires
is_negative-requires c = search rules

pub invariant_of-result : goal.invariant_of-result
invariant_of-result c = search rules

pub returns-clause-none : goal.returns-clause-none
returns-clause-none c = search rules

pub returns-clause-some : goal.returns-clause-some
returns-clause-some c = search rules
