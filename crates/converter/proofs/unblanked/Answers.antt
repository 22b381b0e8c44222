-- What is read with its blank items is accepted, but for them.
use Rattle.std.proofs.Common.{◌≡◌, sym, ap, ◌∙◌, Ok}
use Rattle.sheet.proofs.Sheets.{accepted-sheet}
use Rattle.converter.specs.Converting.{kept_reading}
use Rattle.converter.proofs.unblanked.Goals as goal

pub without_blanks-requires : goal.without_blanks-requires
without_blanks-requires c =
    let m = c.read_by-r.result.model in
    let e : kept_reading c.args.s.now ≡ record { verdict = Ok tt; model = m } =
    sym c.read_by-r.ensures ∙ ap (λ v. record { verdict = v; model = m }) c.in-Ok.is in
    (accepted-sheet c.args.s.now m e).fair
