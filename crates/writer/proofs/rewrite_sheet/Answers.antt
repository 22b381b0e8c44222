-- Writing what was read gives the very bytes (Roundtrip, read-written).
use Rattle.std.proofs.Common.{◌≡◌, ◌∙◌, sym, ap}
use Rattle.std.specs.Prelude.{Ok}
use Rattle.sheet.specs.Reading.{read_sheet}
use Rattle.writer.proofs.Roundtrip.{read-written}
use Rattle.writer.proofs.rewrite_sheet.Goals as goal

pub returns : goal.returns
returns c =
    let r = c.read-r in
    let s = c.args.s.now in
    let a : read_sheet s ≡ record { verdict = Ok tt; model = r.result.model }
    = sym r.ensures ∙ ap (λ v. record { verdict = v; model = r.result.model }) c.in_default.is in
    let b = read-written s r.result.model a in
    record { value = rw a (rw (b.0, b.1) at c.write_sheet.ensures.value); out_after = rw a (rw (b.0, b.1) at c.write_sheet.ensures.out_after) }
