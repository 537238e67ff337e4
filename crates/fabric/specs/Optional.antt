-- Values that may be missing, and values that keep a law.
use Rattle.std.specs.Prelude.{◌≡◌, ℕ, Bool, true, false, cond, Some, None, Option, ◌≢◌, refl}
use Rattle.std.specs.Option.{option_map}
use Rattle.std.proofs.Common.{sym, subst, arith}
use Rattle.fabric.specs.Options.{allowed}

-- none is not a value
pub nothing : {A : Type 0} {x : A} → None ≢ Some x
nothing e = let z : ◌≡◌ {A = ℕ} 0 1 = cc in omega arith

pub same : {A : Type 0} {x y : A} → Some x ≡ Some y → x ≡ y
same e = cc

-- a value that is allowed
pub allowed_is : {A : Type 0} {x y : A} (t : Bool) → allowed t x ≡ Some y → (t ≡ true) × (x ≡ y)
allowed_is true e = (refl, same e)
allowed_is false e = absurd (nothing e)

-- or may be there where the test passes
pub cond_is : {A : Type 0} {o : Option A} {y : A} (t : Bool) → cond t o None ≡ Some y → (t ≡ true) × (o ≡ Some y)
cond_is true e = (refl, e)
cond_is false e = absurd (nothing e)

-- a value that came by a function
pub each_is : {A B : Type 0} {y : B} (f : A → B) (o : Option A) → option_map f o ≡ Some y → (x : A) × (o ≡ Some x) × (f x ≡ y)
each_is f None e = absurd (nothing e)
each_is f (Some x) e = (x, refl, same e)

pub each_none : {A B : Type 0} (f : A → B) (o : Option A) → option_map f o ≡ None → o ≡ None
each_none f None e = refl
each_none f (Some x) e = absurd (nothing (sym e))

-- what equals a value that keeps a law keeps it too: the two promises of a call together
pub with_law : {A : Type 0} (Law : A → Type 0) (x : A) → Law x → (r : A) → r ≡ x → record { is : r ≡ x; law : Law r }
with_law Law x h r e = record { is = e; law = subst Law (sym e) h }
