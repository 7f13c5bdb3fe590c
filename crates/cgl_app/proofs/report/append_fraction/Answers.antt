use Rattle.cgl_app.proofs.report.append_fraction.Goals as goal

pub returns : goal.returns
returns c = rw c.digits-len.ensures.text at c.append.ensures
