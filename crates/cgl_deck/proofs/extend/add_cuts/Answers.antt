use Rattle.std.proofs.Common.{length, nat_lt, subst, sym, arith}
use Rattle.std.specs.List.{list_all}
use Rattle.std.proofs.lemmas.List.{drop_all}
use Rattle.cgl_deck.specs.Extended.{AreRising, is_decimal}
use Rattle.cgl_deck.proofs.CutListLaws.{cut_passes, cuts_ended, cuts_start, cuts_turn, rising_turn, terms_known}
use Rattle.cgl_deck.proofs.extend.add_cuts.Goals as goal

pub loop-k-init : goal.loop-k-init
loop-k-init c = record { columns = cuts_start c.args.first c.args.cuts.now c.args.columns.now; rising = λ h. h }

pub loop-k-preserved : goal.loop-k-preserved
loop-k-preserved c =
    record {
      columns = cuts_turn c.loop-k.columns c.add_terms.new.columns _ c.args.first c.loop-k.k c.index-cuts-k.result c.args.cuts.now (omega arith) c.index-cuts-k.is c.in_ok-add_terms.ensures.columns
          c.loop-k.invariant.columns;
      rising = rising_turn c.args.cuts.now c.loop-k.k c.index-cuts-k.result (omega arith) c.index-cuts-k.is c.in_ok-add_terms.ensures.rising c.loop-k.invariant.rising;
    }

pub add_terms-requires-clause-known : goal.add_terms-requires-clause-known
add_terms-requires-clause-known c =
    terms_known (length c.loop-k.columns) (length c.args.columns.now) c.index-cuts-k.result c.loop-k.auto.columns
    (cut_passes (λ v. list_all (λ t. nat_lt t.0 (length c.args.columns.now)) v.terms) c.args.cuts.now c.loop-k.k c.index-cuts-k.result c.loop-k-test.true c.index-cuts-k.is c.requires.known)

pub add_terms-requires-clause-decimal : goal.add_terms-requires-clause-decimal
add_terms-requires-clause-decimal c = cut_passes is_decimal c.args.cuts.now c.loop-k.k c.index-cuts-k.result c.loop-k-test.true c.index-cuts-k.is c.requires.decimal

pub returns-clause-columns : goal.returns-clause-columns
returns-clause-columns c = cuts_ended c.loop-k.columns _ c.args.first c.loop-k.k c.args.cuts.now c.loop-k-test.false c.loop-k.invariant.columns

pub returns-clause-rising : goal.returns-clause-rising
returns-clause-rising c = c.loop-k.invariant.rising (subst AreRising (sym (drop_all c.loop-k.k c.args.cuts.now c.loop-k-test.false)) tt)
