use Rattle.std.proofs.Common.{◌≡◌, true, false, is_some, sym, subst, arith}
use Rattle.fabric.specs.Chart.{octets}
use Rattle.fabric.specs.Check.{fault}
use Rattle.fabric.specs.Octets.{octets_from}
use Rattle.fabric.proofs.charts.Chart.of.Goals as goal

pub invariant_of-result : goal.invariant_of-result
invariant_of-result c =
    let b = c.args.bytes.now in
    let same = sym c.of.ensures in
    record {
      passed = subst (λ x. is_some (fault x) ≡ false) same c.requires.passed;
      small = subst (λ x. octets x ≡ true) same (octets_from b (λ i. omega (arith, c.type_inv.bytes i)));
    }
