use Rattle.std.proofs.Common.{rules, arith, ◌≡◌, ◌+◌, ◌++◌, ◌<◌, ◌^◌, length, length-take-le, sym, take, drop, subst, ap}
use Rattle.cgl_num.specs.NumberText.{Word, IsCounted}
use Rattle.cgl_num.proofs.CountLaws.{if_none_then, in_any_case, point_within, first_room, second_room, digits_short, bad_before, bad_behind}
use Rattle.cgl_num.proofs.NumberLaws.{around, if_some_then, above_zero}
use Rattle.cgl_num.proofs.number_text.count_around.Goals as goal
use Rattle.cgl_num.proofs.number_text.count_around.Goals.{else-point-eq0-via-then-point-eq0+else-is_empty, else-point-eq0-via-else-point-eq0}

pub returns-clause-some : goal.returns-clause-some
returns-clause-some c =
    let at = c.args.point in
    let text = c.args.text.now in
    let is : c.behind-decimals.result.now ≡ drop (at + 1) text = c.behind-decimals.ensures in
    let behind : at ≡ 0 → 0 < length (drop (at + 1) text) = λ zero.
    elim c.else-point-eq0.branch [
      | else-point-eq0-via-then-point-eq0+else-is_empty w ↦ (let more : 0 < length c.behind-decimals.result.now = above_zero (length c.behind-decimals.result.now) w.if-is_empty.ensures in omega (arith, more, ap length is))
      | else-point-eq0-via-else-point-eq0 w ↦ absurd (omega (arith, zero))
    ] in
    if_some_then c.count-2.result c.count-2.ensures.some
    (λ d all. around text at d.value d.zeros d.size c.requires
    (let P : Word → Type 0 = λ ds. IsCounted (take at text ++ ds) d.value d.zeros d.size in
    subst P is (all (take at text) (c.in-Some.ensures.some _ c.new.ensures.counted)))
    behind)

pub behind-decimals-requires : goal.behind-decimals-requires
behind-decimals-requires c = search rules

pub is_empty-requires : goal.is_empty-requires
is_empty-requires c κs = search rules

pub returns-then-is_empty-clause-none : goal.returns-then-is_empty-clause-none
returns-then-is_empty-clause-none c = search rules

pub returns-then-is_empty-clause-some : goal.returns-then-is_empty-clause-some
returns-then-is_empty-clause-some c = search rules

pub returns-then-is_empty-clause-short : goal.returns-then-is_empty-clause-short
returns-then-is_empty-clause-short c = search rules

pub new-requires : goal.new-requires
new-requires c = search rules

pub slice_bounds-count-end : goal.slice_bounds-count-end
slice_bounds-count-end c = sym (length-take-le c.args.point c.args.text.now (point_within _ _ c.requires))

pub count-requires-clause-zeros : goal.count-requires-clause-zeros
count-requires-clause-zeros c = let fits : length c.args.text.now < 2 ^ 64 = search rules in first_room _ c.args.point _ fits c.new.ensures.zeros

pub count-requires-clause-size : goal.count-requires-clause-size
count-requires-clause-size c = let fits : length c.args.text.now < 2 ^ 64 = search rules in first_room _ c.args.point _ fits c.new.ensures.size

pub returns-in_default-clause-none : goal.returns-in_default-clause-none
returns-in_default-clause-none c = bad_before _ _ c.requires c.in_default.ensures.none

pub returns-in_default-clause-some : goal.returns-in_default-clause-some
returns-in_default-clause-some c = search rules

pub returns-in_default-clause-short : goal.returns-in_default-clause-short
returns-in_default-clause-short c = search rules

pub count-requires-2-clause-zeros : goal.count-requires-2-clause-zeros
count-requires-2-clause-zeros c = let fits : length c.args.text.now < 2 ^ 64 = search rules in second_room _ _ _ _ _ fits c.new.ensures.zeros c.in-Some.ensures.room.0 c.behind-decimals.ensures

pub count-requires-2-clause-size : goal.count-requires-2-clause-size
count-requires-2-clause-size c = let fits : length c.args.text.now < 2 ^ 64 = search rules in second_room _ _ _ _ _ fits c.new.ensures.size c.in-Some.ensures.room.1 c.behind-decimals.ensures

pub returns-clause-none : goal.returns-clause-none
returns-clause-none c = if_none_then c.count-2.result c.count-2.ensures.none (bad_behind _ _ _ c.requires c.behind-decimals.ensures)

pub returns-clause-short : goal.returns-clause-short
returns-clause-short c = let fits : length c.args.text.now < 2 ^ 64 = search rules in in_any_case c.count-2.result (digits_short _ fits)
