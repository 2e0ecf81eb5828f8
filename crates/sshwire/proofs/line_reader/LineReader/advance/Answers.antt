use Rattle.std.proofs.Common.{◌≡◌, true, subst}
use Rattle.sshwire.specs.declared.line_form.LineForm.{LineForm}
use Rattle.sshwire.specs.Reading.{is_line_by}
use Rattle.sshwire.proofs.Steps.{strict_done, strict_memory, strict_more}
use Rattle.sshwire.proofs.line_reader.LineReader.advance.Goals as goal

pub of_unfinished-requires : goal.of_unfinished-requires
of_unfinished-requires c =
    let test : is_line_by c.self.inside.lines.form c.in-Ok-Some.line.items ≡ true = (let t = c.in-Ok-Some.ensures.line in rw c.in-Ok-Some.field-0-is at t) in
    subst (λ (form : LineForm). is_line_by form c.in-Ok-Some.line.items ≡ true) c.self.invariant test

pub returns-in-Ok-None-clause-reads : goal.returns-in-Ok-None-clause-reads
returns-in-Ok-None-clause-reads c =
    strict_more c.self.inside.lines.state c.args.self.now c.self.inside.lines.form c.args.piece.now c.take_line.new.self.state c.in-Ok-None.field-0
    c.self.view_is c.self.invariant c.in-Ok-None.ensures.reads c.in-Ok-None.field-0-is

pub returns-in-Ok-clause-reads : goal.returns-in-Ok-clause-reads
returns-in-Ok-clause-reads c =
    strict_done c.self.inside.lines.state c.args.self.now c.self.inside.lines.form c.args.piece.now c.take_line.new.self.state c.in-Ok-Some.field-0
    c.self.view_is c.self.invariant c.in-Ok-Some.ensures.reads c.in-Ok-Some.line c.in-Ok.version c.taken.result c.in-Ok-Some.field-0-is c.in-Ok.ensures c.taken.ensures

pub returns-in-Err-of_unfinished-clause-reads : goal.returns-in-Err-of_unfinished-clause-reads
returns-in-Err-of_unfinished-clause-reads c =
    strict_memory c.self.inside.lines.state c.args.self.now c.self.inside.lines.form c.args.piece.now c.take_line.new.self.state c.in-Ok-Some.field-0
    c.self.view_is c.self.invariant c.in-Ok-Some.ensures.reads c.in-Ok-Some.line c.refuse.new.self _ c.in-Ok-Some.field-0-is c.refuse.ensures
