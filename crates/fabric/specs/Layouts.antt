-- What a layout holds.
use Rattle.std.specs.Prelude.{List}
use Rattle.fabric.specs.Links.{Link}
use Rattle.fabric.specs.declared.links.Closed.{Closed}

-- the closed links, in the order in which they were closed
abbrev pub links_of : Closed → List Link
links_of c = c.links.items
