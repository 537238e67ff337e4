-- Questions in a fixed order: the tests give the number that the questions in plain terms give.
use Rattle.std.specs.Prelude.{◌≡◌, ℕ, Bool, true, false, None, Decides, Option, refl}
use Rattle.std.proofs.Common.{sym}
use Rattle.std.proofs.lemmas.Bool.{false≢true}
use Rattle.fabric.specs.Questions.{ask, Asks, goes_on, stops}
use Rattle.fabric.specs.Optional.{nothing}

-- a test that decides its question
pub asks : (n : ℕ) {Q : Type 0} (Later : Option ℕ → Type 0) (t : Bool) (later : Option ℕ) → Decides t Q → Later later → Asks n Q Later (ask n t later)
asks n Later true later d h = goes_on (d.0 refl) h
asks n Later false later d h = stops (λ q. false≢true (d.1 q)) refl

-- where no number is given, the question was answered yes
pub yes_to : (n : ℕ) (t : Bool) (later : Option ℕ) → ask n t later ≡ None → (t ≡ true) × (later ≡ None)
yes_to n true later f = (refl, f)
yes_to n false later f = absurd (nothing (sym f))
