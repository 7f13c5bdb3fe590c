use Rattle.cgl_app.proofs.say.say_unaccepted.Goals as goal

pub returns-in-Deck : goal.returns-in-Deck
returns-in-Deck g c = rw c.in-Deck.is c.say.ensures

pub returns-in-Entry : goal.returns-in-Entry
returns-in-Entry g c = rw c.in-Entry.is c.say_entry.ensures
