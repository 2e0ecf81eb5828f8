use Rattle.std.proofs.Common.{◌++◌, length}
use Rattle.sshwire.specs.declared.line_form.LineForm.TheVariants.{Strict}
use Rattle.sshworld.proofs.link_laws.below_law.Goals as goal

pub returns : goal.returns
returns c = record {
  laws = record {
    clear = c.writing_law.ensures.clear;
    sealed = c.writing_law.ensures.sealed;
    size = c.writing_law.ensures.size;
    preamble = λ form k text bytes more p. c.parser_by_law.ensures.wider form k (bytes ++ more) text (length bytes)
        (c.parser_by_law.ensures.preamble Strict k text bytes more p);
    parsers = c.history_law.ensures.parsers;
    link = c.stream_law.ensures.link;
    sizes = c.stream_law.ensures.sizes;
    all = c.stream_law.ensures.all;
    nothing = c.stream_law.ensures.nothing;
    one = c.stream_law.ensures.one;
  };
}
