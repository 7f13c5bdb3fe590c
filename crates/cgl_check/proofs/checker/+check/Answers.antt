use Rattle.std.proofs.Common.{◌≡◌, ℕ, ◌+◌, ◌-◌, List, [], ◌∷◌, ◌++◌, map, take, drop, length, Option, Some, None, refl, sym, ap, ◌∙◌, subst, rules, arith}
use Rattle.std.specs.Prelude.{nat_lt, option_map}
use Rattle.std.proofs.lemmas.List.{length_push}
use Rattle.cgl_model.specs.declared.linear.Ineq.{Ineq}
use Rattle.cgl_derive.specs.declared.step.Ref.{Ref}
use Rattle.cgl_derive.specs.declared.step.Step.{out-Step, out-roll-Step}
use Rattle.cgl_derive.specs.declared.step.Step.TheVariants.{rolls-Lin}
use Rattle.cgl_derive.specs.declared.step.Split.{out-Split}
use Rattle.cgl_derive.specs.Derives.{AreColumns, Layer}
use Rattle.cgl_check.specs.declared.frames.Frame.{Frame}
use Rattle.cgl_check.specs.declared.path.Branch.TheVariants.{Right}
use Rattle.cgl_check.specs.declared.path.Reject.{Reject}
use Rattle.cgl_check.specs.FirstFailure.{branch_end, branch_failure, end_failure, failure_within, lin_failure, list_failure, step_failure}
use Rattle.cgl_check.specs.Nested.{inner_search}
use Rattle.cgl_check.specs.Places.{at_step}
use Rattle.cgl_check.specs.Room.{IsRoomFor, Room}
use Rattle.cgl_check.specs.Tests.{ends_in}
use Rattle.cgl_check.specs.Walk.{AreEntered, HasNarrowGivens, IsAt, branch_steps, claims_at, entered, given_in, givens_at, meant_at, prefixed, split_at, steps_at}
use Rattle.cgl_check.proofs.TestLaws.{lt_holds}
use Rattle.cgl_check.proofs.Exact.{all_push, columns_negated, head_right}
use Rattle.cgl_check.proofs.WalkLaws.{branch_at, branch_ended, branch_found, branch_list, branch_proved, claim_tested, claims_more, columns_more, found_first, found_next, found_none, if_none, list_next, meant_is, none_left_of, split_is, step_is, take_front, within_is}
use Rattle.cgl_check.proofs.checker.+check.Goals as goal

pub branch_failure-list_failure-found-requires : goal.branch_failure-list_failure-found-requires
branch_failure-list_failure-found-requires t c =
    let scope = c.args.scope.now in
    let old = c.args.frames.now in
    let s = c.args.split.now in
    let f : Frame = record { step = c.args.at; branch = c.args.branch } in
    let push = sym c.push.ensures in
    let longer = ap (λ fs. length fs) c.push.ensures ∙ length_push old f in (
      search rules,
      (
        c.requires.scope,
        (
          c.requires.room,
          (
            subst (λ (fs : List Frame). IsAt scope fs 0) push (branch_at scope old f s c.requires.at c.requires.split c.requires.narrow c.requires.given),
            (
              omega (arith, longer, c.requires.depth),
              subst (λ (fs : List Frame). steps_at scope.steps.now fs ≡ c.branch_of-steps.result.now) push (branch_list scope.steps.now old f s c.requires.split ∙ sym c.branch_of-steps.ensures),
            ),
          ),
        ),
      ),
    )

pub branch_failure-returns-then-is_some-clause-failure : goal.branch_failure-returns-then-is_some-clause-failure
branch_failure-returns-then-is_some-clause-failure t c =
    let scope = c.args.scope.now in
    let f : Frame = record { step = c.args.at; branch = c.args.branch } in
    let found = branch_found scope.model.now scope.shared.now c.args.depth scope.steps.now c.args.frames.now f c.args.split.now c.push.new.self c.branch_of-steps.result.now c.list_failure-found.result c.push.ensures c.requires.split
    c.branch_of-steps.ensures c.list_failure-found.ensures.failure in
    found_first (prefixed c.args.frames.now) c.list_failure-found.result _ (end_failure c.args.at c.args.branch (branch_steps c.args.branch c.args.split.now) (out-Split c.args.split.now).claim) found (sym c.if-is_some.ensures)

pub branch_failure-returns-then-not-ends_in-clause-failure : goal.branch_failure-returns-then-not-ends_in-clause-failure
branch_failure-returns-then-not-ends_in-clause-failure t c =
    let scope = c.args.scope.now in
    let old = c.args.frames.now in
    let f : Frame = record { step = c.args.at; branch = c.args.branch } in
    let found = branch_found scope.model.now scope.shared.now c.args.depth scope.steps.now old f c.args.split.now c.push.new.self c.branch_of-steps.result.now c.list_failure-found.result c.push.ensures c.requires.split
    c.branch_of-steps.ensures c.list_failure-found.ensures.failure in
    let ends = sym (c.if-not-ends_in.ensures ∙ ap (λ xs. ends_in xs (out-Split c.args.split.now).claim) c.branch_of-steps.ensures) in
    let same = c.as_slice.ensures.value ∙ c.truncate.ensures
    ∙ ap (take c.len-outer.result) (if_none c.list_failure-found.result c.list_failure-found.ensures.frames (sym c.if-is_some.ensures) ∙ c.push.ensures) ∙ take_front c.len-outer.result old (f ∷ []) c.len-outer.ensures in
    let P : List Frame → Reject = λ fs. record { path = map entered fs ++ (c.args.at, Some c.args.branch) ∷ []; why = branch_end } in
    branch_ended (prefixed old) c.list_failure-found.result _ _ _ c.reject.result found (sym c.if-is_some.ensures) ends (c.reject.ensures ∙ ap P same)

pub branch_failure-returns-clause-failure : goal.branch_failure-returns-clause-failure
branch_failure-returns-clause-failure t c =
    let scope = c.args.scope.now in
    let f : Frame = record { step = c.args.at; branch = c.args.branch } in
    let found = branch_found scope.model.now scope.shared.now c.args.depth scope.steps.now c.args.frames.now f c.args.split.now c.push.new.self c.branch_of-steps.result.now c.list_failure-found.result c.push.ensures c.requires.split
    c.branch_of-steps.ensures c.list_failure-found.ensures.failure in
    let ends = sym (c.if-not-ends_in.ensures ∙ ap (λ xs. ends_in xs (out-Split c.args.split.now).claim) c.branch_of-steps.ensures) in
    branch_proved (prefixed c.args.frames.now) c.list_failure-found.result _ _ _ found (sym c.if-is_some.ensures) ends

pub list_failure-returns-then-is_some-clause-failure : goal.list_failure-returns-then-is_some-clause-failure
list_failure-returns-then-is_some-clause-failure t c =
    let m = c.args.scope.now.model.now in
    let shared = c.args.scope.now.shared.now in
    let root = c.args.scope.now.steps.now in
    let old = c.args.frames.now in
    let at = c.loop-at.at in
    let s = c.index-steps-at.result in
    let enter = nat_lt 0 c.args.depth in
    let inner = inner_search m shared c.args.depth in
    let gs = givens_at root old in
    let P : List Frame → Type 0 = λ fs. c.step_failure-found.result ≡ option_map (prefixed fs) (step_failure m shared enter inner (givens_at root fs) (claims_at root fs at) at (out-Step s)) in
    let found = subst P c.loop-at.invariant.frames c.step_failure-found.ensures.failure in
    let here = step_is c.args.steps.now c.args.steps.now at s refl (omega arith) c.index-steps-at.is in
    let whole = within_is m shared c.args.depth gs (claims_at root old 0) c.args.steps.now ∙ c.loop-at.invariant.failure ∙ list_next m shared enter inner gs (claims_at root old at) c.args.steps.now at s here in
    found_first (prefixed old) c.step_failure-found.result _ _ found (sym c.if-is_some.ensures) ∙ ap (option_map (prefixed old)) (sym whole)

pub list_failure-loop-at-preserved : goal.list_failure-loop-at-preserved
list_failure-loop-at-preserved t c =
    let m = c.args.scope.now.model.now in
    let shared = c.args.scope.now.shared.now in
    let root = c.args.scope.now.steps.now in
    let old = c.args.frames.now in
    let at = c.loop-at.at in
    let s = c.index-steps-at.result in
    let enter = nat_lt 0 c.args.depth in
    let inner = inner_search m shared c.args.depth in
    let gs = givens_at root old in
    let P : List Frame → Type 0 = λ fs. c.step_failure-found.result ≡ option_map (prefixed fs) (step_failure m shared enter inner (givens_at root fs) (claims_at root fs at) at (out-Step s)) in
    let found = subst P c.loop-at.invariant.frames c.step_failure-found.ensures.failure in
    let none = sym c.if-is_some.ensures in
    let here = step_is c.args.steps.now c.args.steps.now at s refl (omega arith) c.index-steps-at.is in
    let there = step_is c.args.steps.now (steps_at root old) at s c.requires.steps (omega arith) c.index-steps-at.is in
    record {
      failure = c.loop-at.invariant.failure ∙ list_next m shared enter inner gs (claims_at root old at) c.args.steps.now at s here
          ∙ found_next (prefixed old) c.step_failure-found.result _ _ found none
          ∙ ap (λ cs. list_failure m shared enter inner gs cs (at + 1) (drop (at + 1) c.args.steps.now)) (sym (claims_more root old at s there));
      frames = if_none c.step_failure-found.result c.step_failure-found.ensures.frames none ∙ c.loop-at.invariant.frames;
      at = record {
        entered = c.loop-at.invariant.at.entered;
        givens = c.loop-at.invariant.at.givens;
        claims = columns_more m root old at s there c.loop-at.invariant.at.claims
            (claim_tested m shared enter inner gs (claims_at root old at) at (out-Step s) (found_none (prefixed old) c.step_failure-found.result _ found none));
      };
      room = c.step_failure-found.ensures.room ∙ c.loop-at.invariant.room;
    }

pub list_failure-returns-clause-failure : goal.list_failure-returns-clause-failure
list_failure-returns-clause-failure t c =
    let m = c.args.scope.now.model.now in
    let shared = c.args.scope.now.shared.now in
    let root = c.args.scope.now.steps.now in
    let old = c.args.frames.now in
    let at = c.loop-at.at in
    let enter = nat_lt 0 c.args.depth in
    let inner = inner_search m shared c.args.depth in
    let gs = givens_at root old in
    let whole = within_is m shared c.args.depth gs (claims_at root old 0) c.args.steps.now ∙ c.loop-at.invariant.failure ∙ none_left_of m shared enter inner gs (claims_at root old at) at at c.args.steps.now (omega arith) in
    sym (ap (option_map (prefixed old)) whole)

pub split_failure-branch_failure-left-requires : goal.split_failure-branch_failure-left-requires
split_failure-branch_failure-left-requires t c =
    let m = c.args.scope.now.model.now in
    let head = head_right m (nat_lt 0 c.args.depth) c.args.split.now (sym c.in_default.ensures) in
    let some = lt_holds 0 c.args.depth head.enter_is in
    let narrow : HasNarrowGivens c.args.split.now = record { low = head.low; high = head.high } in (
      search rules,
      (c.requires.scope, (c.requires.room, (c.requires.at, (omega (arith, some, c.requires.depth), (c.requires.split, (narrow, columns_negated m (out-Split c.args.split.now).p head.columns)))))),
    )

pub split_failure-returns-then-is_some-clause-failure : goal.split_failure-returns-then-is_some-clause-failure
split_failure-returns-then-is_some-clause-failure t c =
    let m = c.args.scope.now.model.now in
    let shared = c.args.scope.now.shared.now in
    let root = c.args.scope.now.steps.now in
    let old = c.args.frames.now in
    let none = sym c.in_default.ensures in
    let head = head_right m (nat_lt 0 c.args.depth) c.args.split.now none in
    let whole = split_is m shared c.args.depth (givens_at root old) (claims_at root old c.args.at) c.args.at c.args.split.now none (lt_holds 0 c.args.depth head.enter_is) in
    found_first (prefixed old) c.branch_failure-left.result _ _ c.branch_failure-left.ensures.failure (sym c.if-is_some.ensures) ∙ ap (option_map (prefixed old)) (sym whole)

pub split_failure-branch_failure-requires : goal.split_failure-branch_failure-requires
split_failure-branch_failure-requires t c =
    let scope = c.args.scope.now in
    let m = scope.model.now in
    let root = scope.steps.now in
    let head = head_right m (nat_lt 0 c.args.depth) c.args.split.now (sym c.in_default.ensures) in
    let some = lt_holds 0 c.args.depth head.enter_is in
    let narrow : HasNarrowGivens c.args.split.now = record { low = head.low; high = head.high } in
    let same = if_none c.branch_failure-left.result c.branch_failure-left.ensures.frames (sym c.if-is_some.ensures) in
    let back = sym same in
    let size = ap (λ fs. length fs) same in (
      search rules,
      (
        c.requires.scope,
        (
          subst (λ (r : Room). IsRoomFor m scope.shared.now root r) (sym c.branch_failure-left.ensures.room) c.requires.room,
          (
            subst (λ (fs : List Frame). IsAt scope fs c.args.at) back c.requires.at,
            (
              omega (arith, some, size, c.requires.depth),
              (subst (λ (fs : List Frame). split_at (steps_at root fs) c.args.at ≡ Some c.args.split.now) back c.requires.split, (narrow, head.columns)),
            ),
          ),
        ),
      ),
    )

pub split_failure-returns-clause-failure : goal.split_failure-returns-clause-failure
split_failure-returns-clause-failure t c =
    let m = c.args.scope.now.model.now in
    let shared = c.args.scope.now.shared.now in
    let root = c.args.scope.now.steps.now in
    let old = c.args.frames.now in
    let s = c.args.split.now in
    let none = sym c.in_default.ensures in
    let head = head_right m (nat_lt 0 c.args.depth) s none in
    let gs = givens_at root old in
    let cs = claims_at root old c.args.at in
    let whole = split_is m shared c.args.depth gs cs c.args.at s none (lt_holds 0 c.args.depth head.enter_is) in
    let empty = sym c.if-is_some.ensures in
    let same = if_none c.branch_failure-left.result c.branch_failure-left.ensures.frames empty in
    let P : List Frame → Type 0 = λ fs. c.branch_failure.result
    ≡ option_map (prefixed fs) (branch_failure (failure_within m shared (c.args.depth - 1)) (givens_at root fs ++ given_in Right s ∷ []) (claims_at root fs c.args.at) c.args.at Right (branch_steps Right s) (out-Split s).claim) in
    subst P same c.branch_failure.ensures.failure ∙ ap (option_map (prefixed old)) (sym (whole ∙ found_next (prefixed old) c.branch_failure-left.result _ _ c.branch_failure-left.ensures.failure empty))

pub step_failure-returns-in-Lin-clause-failure : goal.step_failure-returns-in-Lin-clause-failure
step_failure-returns-in-Lin-clause-failure t c =
    let scope = c.args.scope.now in
    let m = scope.model.now in
    let root = scope.steps.now in
    let old = c.args.frames.now in
    let at = c.args.at in
    let lin = c.in-Lin.lin in
    let result = c.lin_failure-why.result in
    let level = ap out-Step c.in-Lin.is ∙ ap out-Step (sym (rolls-Lin lin)) ∙ out-roll-Step _ in
    let P : List Frame → Type 0 = λ fs. result ≡ lin_failure m (meant_at scope fs at) lin in
    let Q : (Ref → Option Ineq) → Option ℕ = λ means. lin_failure m means lin in
    let why = subst P c.as_slice.ensures.value c.lin_failure-why.ensures.failure ∙ ap Q (meant_is scope old at c.requires.scope) in
    let R : List Frame → Option Reject = λ fs. option_map (prefixed fs) (at_step at result) in
    let S : Option ℕ → Option Reject = λ w. option_map (prefixed old) (at_step at w) in
    let T : Layer → Option Reject = λ l. option_map (prefixed old) (step_failure m scope.shared.now (nat_lt 0 c.args.depth) (inner_search m scope.shared.now c.args.depth) (givens_at root old) (claims_at root old at) at l) in
    c.reject_step.ensures ∙ ap R c.as_slice-in-Lin.ensures.value ∙ ap S why ∙ ap T (sym level)
