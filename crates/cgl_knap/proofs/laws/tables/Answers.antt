use Rattle.cgl_knap.proofs.TableLaws.{table_room, table_take}
use Rattle.cgl_knap.proofs.OrderLaws.{table_last}
use Rattle.cgl_knap.proofs.laws.tables.Goals as goal

pub returns-clause-room : goal.returns-clause-room
returns-clause-room c = table_room

pub returns-clause-front : goal.returns-clause-front
returns-clause-front c = table_take

pub returns-clause-last : goal.returns-clause-last
returns-clause-last c = table_last
