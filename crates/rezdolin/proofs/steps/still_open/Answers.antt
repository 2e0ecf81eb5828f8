use Rattle.std.proofs.Common.{◌∙◌, List, ℕ, ap}
use Rattle.rezdolin.specs.Frames.{framed}
use Rattle.rezdolin.proofs.StepLemmas.{open_asks_none, open_quiet, open_so}
use Rattle.rezdolin.proofs.steps.still_open.Goals as goal

pub returns-clause-stands : goal.returns-clause-stands
returns-clause-stands c = λ d h s after brought.
    open_so d c.args.endpoint c.pause-paused.result c.args.digest.now c.in_ok-text.text.items c.in_ok-record.record.items h s c.in_ok-asked.asked.end c.in_ok-asked.asked.told.items
    c.in_ok-asked.ensures.end c.in_ok-asked.ensures.told (c.in_ok-record.ensures ∙ ap (λ (text : List ℕ). framed c.args.digest.now text) c.deref.ensures.value) c.in_ok-text.ensures c.pause-paused.ensures.fits c.pause-paused.ensures.follows c.pause-paused.ensures.asks after

pub returns-clause-asks : goal.returns-clause-asks
returns-clause-asks c = λ none. open_quiet _ _ c.in_ok-asked.ensures.end none

pub returns-clause-opens : goal.returns-clause-opens
returns-clause-opens c = λ goes_on. (c.requires.open, open_asks_none _ _ c.in_ok-asked.ensures.end goes_on)
