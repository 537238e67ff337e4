-- A cube: the addresses are those of its corners, and labels follow the reflected Gray code.
use Rattle.std.specs.Prelude.{◌≡◌, ℕ, ◌/◌, ◌^◌, cond, ◌↔◌, List, Some, None, Ok, Err, Option, Result, ◌==◌, bit_xor, count_ones, nat_le, nat_lt}
use Rattle.std.specs.Int.Count.{count_trailing_zeros}
use Rattle.fabric.specs.Fabrics.{Near, Meaning}
use Rattle.fabric.specs.Hop.{exist}
use Rattle.fabric.specs.Options.{allowed}
use Rattle.fabric.specs.Steps.{via, codes}

-- the dimension of the cube, or the number of the refusal
abbrev pub dimension_of : ℕ → Result ℕ ℕ
dimension_of d = cond (nat_le d 7) (Ok d) (Err 2)

-- a number XOR the same number shifted right
abbrev pub folded : ℕ → ℕ → ℕ
folded by x = bit_xor x (x / 2 ^ by)

-- the address of a label: its Gray code
abbrev pub gray : ℕ → ℕ
gray k = folded 1 k

-- the label of an address of up to seven bits, the other way round
abbrev pub ungray : ℕ → ℕ
ungray a = folded 4 (folded 2 (folded 1 a))

-- port p flips bit p of the address
abbrev pub flip : ℕ → ℕ → ℕ → Option ℕ
flip d a p = allowed (nat_lt p d) (bit_xor a (2 ^ p))

abbrev pub cube_near : ℕ → Near
cube_near d = via (2 ^ d) gray ungray (flip d)

-- the cube as a fabric
abbrev pub cube_meaning : ℕ → Meaning
cube_meaning d = record { nodes = 2 ^ d; near = cube_near d }

abbrev pub cube_addresses : ℕ → List ℕ
cube_addresses d = codes (2 ^ d) gray (λ a. a)

-- the index of the only bit that is set, where there is just one
abbrev pub only_bit : ℕ → Option ℕ
only_bit x = allowed (count_ones x == 1) (count_trailing_zeros 8 x)

-- the port between two labels: the one bit in which their addresses differ
abbrev pub port_to : ℕ → ℕ → ℕ → Option ℕ
port_to d u v = cond (exist (2 ^ d) u v) (only_bit (bit_xor (gray u) (gray v))) None

-- In plain terms: the port of u that leads to v.
abbrev pub LeadsTo : Near → ℕ → ℕ → Option ℕ → Type 0
LeadsTo near u v r = (p : ℕ) → (r ≡ Some p) ↔ (near u p ≡ Some v)
