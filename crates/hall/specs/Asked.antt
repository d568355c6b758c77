-- What a change of the code stands for.
use Rattle.std.specs.Prelude.{map, vec_items}
use Rattle.hall.specs.declared.change.Change as code
use Rattle.hall.specs.declared.change.Change.TheVariants.{Book, Store, Directory, Serve, Mark, Control, Set, Clear}
use Rattle.hall.specs.Changes.{Change, book, store, directory, serve, mark, control, set, clear}

abbrev pub wanted : code.Change → Change
wanted (Book names) = book (map vec_items (vec_items names))
wanted (Store kind) = store kind
wanted (Directory kind) = directory kind
wanted (Serve line) = serve line
wanted (Mark is) = mark is
wanted (Control rows) = control rows
wanted (Set line octet) = set line octet
wanted (Clear line) = clear line
