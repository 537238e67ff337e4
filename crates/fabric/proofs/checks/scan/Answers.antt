use Rattle.std.proofs.Common.{ℕ, ◌*◌, Some, sym, ap, ap₂, ◌∙◌, arith}
use Rattle.std.specs.Option.{option_map}
use Rattle.fabric.specs.Chart.{records_of}
use Rattle.fabric.specs.Check.{passes_at, fault_at, found}
use Rattle.fabric.specs.Refusals.{number_of}
use Rattle.fabric.specs.Searching.{first_some}
use Rattle.fabric.proofs.checks.scan.Goals as goal

pub record_and_port-record-requires : goal.record_and_port-record-requires
record_and_port-record-requires c =
    let b = c.args.bytes.now in
    let r = first_some (passes_at c.args.question b) (8 * records_of b) c.in-Some.place (sym c.in-Some.ensures) in
    omega (arith, r.0, c.requires)

pub returns-in_default : goal.returns-in_default
unfolding found
returns-in_default c = ap (option_map (fault_at c.args.question)) c.in_default.ensures

pub returns : goal.returns
unfolding found
returns c =
    ap₂ (λ r (i : ℕ × ℕ). Some (number_of r, i.0, i.1)) c.into.ensures c.record_and_port-record.ensures
    ∙ ap (option_map (fault_at c.args.question)) c.in-Some.ensures
