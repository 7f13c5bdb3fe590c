use Rattle.cgl_knap.proofs.KnownLaws.{first, light, lighter, alike, nothing, later, alike_later, dear, too_light, no_pick}
use Rattle.cgl_knap.proofs.known.known_covers.Goals as goal

pub returns-clause-first : goal.returns-clause-first
returns-clause-first c = first

pub returns-clause-light : goal.returns-clause-light
returns-clause-light c = light

pub returns-clause-lighter : goal.returns-clause-lighter
returns-clause-lighter c = lighter

pub returns-clause-alike : goal.returns-clause-alike
returns-clause-alike c = alike

pub returns-clause-nothing : goal.returns-clause-nothing
returns-clause-nothing c = nothing

pub returns-clause-later : goal.returns-clause-later
returns-clause-later c = later

pub returns-clause-alike_later : goal.returns-clause-alike_later
returns-clause-alike_later c = alike_later

pub returns-clause-dear : goal.returns-clause-dear
returns-clause-dear c = dear

pub returns-clause-too_light : goal.returns-clause-too_light
returns-clause-too_light c = too_light

pub returns-clause-none : goal.returns-clause-none
returns-clause-none c = no_pick
