use Rattle.std.proofs.Common.{◌∙◌, Some, None, ap, sym}
use Rattle.std.proofs.lemmas.Str.Pattern.{split_parts}
use Rattle.cgl_words.specs.CommandLine.{halves}
use Rattle.cgl_words.proofs.SplitLaws.{halves_at, halves_whole}
use Rattle.cgl_words.proofs.option.halves.Goals as goal

pub returns-in-Some-clause-front : goal.returns-in-Some-clause-front
returns-in-Some-clause-front c =
    let parts = split_parts c.args.at c.args.text.now (Some (c.in-Some.front, c.in-Some.back)) c.in-Some.ensures.cases c.requires in
    sym (ap (λ w. (halves c.args.at w).front) parts.0 ∙ ap (λ h. h.front) (halves_at c.args.at c.in-Some.front.now c.in-Some.back.now parts.1))

pub returns-in-Some-clause-back : goal.returns-in-Some-clause-back
returns-in-Some-clause-back c =
    let parts = split_parts c.args.at c.args.text.now (Some (c.in-Some.front, c.in-Some.back)) c.in-Some.ensures.cases c.requires in
    sym (ap (λ w. (halves c.args.at w).back) parts.0 ∙ ap (λ h. h.back) (halves_at c.args.at c.in-Some.front.now c.in-Some.back.now parts.1))

pub returns-in-None-clause-front : goal.returns-in-None-clause-front
returns-in-None-clause-front c =
    let lacks = split_parts c.args.at c.args.text.now None c.in-None.ensures.cases c.requires in
    sym (ap (λ h. h.front) (halves_whole c.args.at c.args.text.now lacks))

pub returns-in-None-clause-back : goal.returns-in-None-clause-back
returns-in-None-clause-back c =
    let lacks = split_parts c.args.at c.args.text.now None c.in-None.ensures.cases c.requires in
    sym (ap (λ h. h.back) (halves_whole c.args.at c.args.text.now lacks))
