-- A mesh with the snake labelling: labels go to and fro, row after row.
use Rattle.std.specs.Prelude.{◌≡◌, ℕ, zero, suc, ◌+◌, ◌-◌, ◌*◌, ◌/◌, ◌%◌, ◌≤◌, Bool, cond, ◌&&◌, ◌↔◌, List, Some, None, Ok, Err, Option, Result, ◌==◌, nat_le, nat_lt}
use Rattle.fabric.specs.Fabrics.{Near, Meaning}
use Rattle.fabric.specs.Options.{allowed}
use Rattle.fabric.specs.Steps.{via, codes}

-- at least a row and a column, and at most 128 places
abbrev pub Shape : ℕ → ℕ → Type 0
Shape rows columns = (1 ≤ rows) × (1 ≤ columns) × (rows * columns ≤ 128)

-- the rows and columns of the mesh, or the number of the refusal
abbrev pub shape_of : ℕ → ℕ → Result (ℕ × ℕ) ℕ
shape_of rows columns = cond (nat_le 1 rows && nat_le 1 columns && nat_le (rows * columns) 128) (Ok (rows, columns)) (Err 1)

-- a column x and a row y
abbrev pub Place : Type 0
Place = ℕ × ℕ

-- a place of the mesh
abbrev pub inside : ℕ → ℕ → Place → Bool
inside rows columns a = nat_lt a.0 columns && nat_lt a.1 rows

-- a row of even number goes forth, one of odd number back
abbrev pub turned : ℕ → ℕ → ℕ → ℕ
turned columns y x = cond (y % 2 == 0) x (columns - x - 1)

-- the label of a place: the places of the rows before its own, and those before it in its row
abbrev pub label_at : ℕ → Place → ℕ
label_at columns a = a.1 * columns + turned columns a.1 a.0

-- and none off the mesh
abbrev pub label_of : ℕ → ℕ → Place → Option ℕ
label_of rows columns a = allowed (inside rows columns a) (label_at columns a)

-- the place of a label: the row by division, and the column by what is left over
abbrev pub place_at : ℕ → ℕ → Place
place_at columns k = (turned columns (k / columns) (k % columns), k / columns)

-- and none for a label that does not exist
abbrev pub place_of : ℕ → ℕ → ℕ → Option Place
place_of rows columns k = allowed (nat_lt k (rows * columns)) (place_at columns k)

-- In plain terms: the place of a label is the one place of the mesh that has this label.
abbrev pub Placed : ℕ → ℕ → ℕ → Option Place → Type 0
Placed rows columns k r = (a : Place) → (r ≡ Some a) ↔ (label_of rows columns a ≡ Some k)

-- the place that a port leads to: x+1, x−1, y+1 and y−1, as far as the mesh goes
abbrev pub beside : ℕ → ℕ → Place → ℕ → Option Place
beside rows columns a zero = allowed (nat_lt (a.0 + 1) columns) (a.0 + 1, a.1)
beside rows columns a (suc zero) = allowed (nat_lt 0 a.0) (a.0 - 1, a.1)
beside rows columns a (suc (suc zero)) = allowed (nat_lt (a.1 + 1) rows) (a.0, a.1 + 1)
beside rows columns a (suc (suc (suc zero))) = allowed (nat_lt 0 a.1) (a.0, a.1 - 1)
beside rows columns a (suc (suc (suc (suc p)))) = None

-- the neighbour through a port is the label of the place that the port leads to
abbrev pub mesh_near : ℕ → ℕ → Near
mesh_near rows columns = via (rows * columns) (place_at columns) (label_at columns) (beside rows columns)

-- the mesh as a fabric
abbrev pub mesh_meaning : ℕ → ℕ → Meaning
mesh_meaning rows columns = record { nodes = rows * columns; near = mesh_near rows columns }

-- the address of a place, and those of all labels in turn
abbrev pub address_at : Place → ℕ
address_at a = 256 * a.1 + a.0

abbrev pub mesh_addresses : ℕ → ℕ → List ℕ
mesh_addresses rows columns = codes (rows * columns) (place_at columns) address_at

-- the place that has an address on some mesh
abbrev pub place_with : ℕ → Option Place
place_with x = allowed (nat_lt x 65536) (x % 256, x / 256)
