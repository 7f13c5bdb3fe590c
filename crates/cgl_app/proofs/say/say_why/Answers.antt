use Rattle.std.proofs.Common.{sym}
use Rattle.cgl_app.proofs.say.say_why.Goals as goal

pub returns-in-ReadFault : goal.returns-in-ReadFault
returns-in-ReadFault g c = rw (c.in-ReadFault.is, sym c.as_bytes.ensures.value) c.say_fault.ensures

pub returns-in-WriteFault : goal.returns-in-WriteFault
returns-in-WriteFault g c = rw (c.in-WriteFault.is, sym c.as_bytes-in-WriteFault.ensures.value) c.say_fault-in-WriteFault.ensures

pub returns-in-OutputFault : goal.returns-in-OutputFault
returns-in-OutputFault g c = rw c.in-OutputFault.is c.say_fault-in-OutputFault.ensures

pub returns-in-Input : goal.returns-in-Input
returns-in-Input g c = rw c.in-Input.is c.say_input.ensures

pub returns-in-Named : goal.returns-in-Named
returns-in-Named g c = rw c.in-Named.is c.say_cause.ensures

pub returns-in-TooLarge : goal.returns-in-TooLarge
returns-in-TooLarge g c = rw c.in-TooLarge.is c.say.ensures

pub returns-in-Memory : goal.returns-in-Memory
returns-in-Memory g c = rw c.in-Memory.is c.say-in-Memory.ensures

pub returns-in-NotAccepted : goal.returns-in-NotAccepted
returns-in-NotAccepted g c = rw c.in-NotAccepted.is c.say_unaccepted.ensures
