-- What a command of the code stands for.
use Rattle.std.specs.Prelude.{vec_items}
use Rattle.hall.specs.declared.command.Command as code
use Rattle.hall.specs.declared.command.Command.TheVariants.{Read, Change, Open, Note, Call}
use Rattle.hall.specs.Asked.{wanted}
use Rattle.hall.specs.Calls.{called}
use Rattle.hall.specs.Commands.{Command, read, change, open_router, note, call}

abbrev pub asked : code.Command → Command
asked (Read octets) = read (vec_items octets)
asked (Change c) = change (wanted c)
asked (Open o) = open_router o
asked (Note n) = note n
asked (Call c) = call (called c)
