use Rattle.std.proofs.Common.{◌∙◌, ◌<◌, length, Some, None, ap, sym, subst, arith}
use Rattle.std.proofs.lemmas.Str.Pattern.{split_parts}
use Rattle.cgl_words.specs.CommandLine.{parts}
use Rattle.cgl_words.proofs.SplitLaws.{parts_at, parts_whole, behind_shorter}
use Rattle.cgl_words.proofs.option.first_part.Goals as goal

pub returns-in-Some-clause-more : goal.returns-in-Some-clause-more
returns-in-Some-clause-more c =
    let cut = split_parts 44 c.args.list.now (Some (c.in-Some.word, c.in-Some.rest)) c.in-Some.ensures.cases (omega arith) in
    ap parts cut.0 ∙ parts_at c.in-Some.word.now c.in-Some.rest.now cut.1

pub returns-in-Some-clause-shorter : goal.returns-in-Some-clause-shorter
returns-in-Some-clause-shorter c =
    let cut = split_parts 44 c.args.list.now (Some (c.in-Some.word, c.in-Some.rest)) c.in-Some.ensures.cases (omega arith) in
    subst (λ text. length c.in-Some.rest.now < length text) (sym cut.0) (behind_shorter c.in-Some.word.now c.in-Some.rest.now)

pub returns-in-None-clause-one : goal.returns-in-None-clause-one
returns-in-None-clause-one c = parts_whole c.args.list.now (split_parts 44 c.args.list.now None c.in-None.ensures.cases (omega arith))
