use Rattle.std.proofs.Common.{◌<◌, ◌^◌, length, sym, subst}
use Rattle.tks_spelling.specs.Header as headers
use Rattle.tks_spelling.specs.declared.header.Header.{Header}
use Rattle.tks_session.proofs.Lengths.{header_short}
use Rattle.tks_session.proofs.Names.{header_names, header_texts}
use Rattle.tks_session.proofs.stepper.StepperMachine.header.Goals as goal

pub returns-clause-legal : goal.returns-clause-legal
returns-clause-legal g c =
    let t = c.args.self.now in
    let h : Header = record { generation = c.args.generation; grid = t.grid; names = t.apps; world_length = c.args.world_length } in
    subst (λ names. headers.header.Legal (record h { names = names })) (sym c.in_ok-names.ensures)
    (c.one_header.ensures.spelled h c.ranges.generation.fits c.width.ensures.range (header_names t.apps c.commands.ensures.names) c.commands.ensures.count
    (header_texts t.apps c.commands.ensures.names) c.ranges.world_length.fits)

pub returns-clause-short : goal.returns-clause-short
returns-clause-short g c =
    let t = c.args.self.now in
    let h : Header = record { generation = c.args.generation; grid = t.grid; names = t.apps; world_length = c.args.world_length } in
    subst (λ names. length (headers.header.write (record h { names = names })) < 2 ^ 40) (sym c.in_ok-names.ensures) (header_short h c.commands.ensures.names c.commands.ensures.count)
