use Rattle.std.proofs.Common.{◌≡◌, false, cond, is_some, sym, ap, ◌∙◌, subst}
use Rattle.fabric.specs.Chart.{alone}
use Rattle.fabric.specs.Check.{fault}
use Rattle.fabric.specs.Held.{bytes_of}
use Rattle.fabric.proofs.Copying.{alone_passes, opened_as_lem}
use Rattle.fabric.proofs.charts.Chart.open.Goals as goal

pub of-requires-in-Err-clause-passed : goal.of-requires-in-Err-clause-passed
of-requires-in-Err-clause-passed c = subst (λ x. is_some (fault x) ≡ false) (sym c.alone.ensures) (ap is_some alone_passes)

pub returns-in-Ok : goal.returns-in-Ok
returns-in-Ok c =
    let b = c.args.bytes.now in
    let r = c.of.result in
    opened_as_lem b (bytes_of r) r.small (c.of.ensures ∙ ap (λ o. cond (is_some o) alone b) c.in-Ok.ensures)

pub returns-in-Err : goal.returns-in-Err
returns-in-Err c =
    let b = c.args.bytes.now in
    let r = c.of-in-Err.result in
    opened_as_lem b (bytes_of r) r.small (c.of-in-Err.ensures ∙ c.alone.ensures ∙ ap (λ o. cond (is_some o) alone b) c.in-Err.ensures)
