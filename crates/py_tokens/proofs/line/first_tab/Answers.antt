use Rattle.std.proofs.Common.{◌∙◌, sym}
use Rattle.py_tokens.proofs.Lines.{tab_here, no_tab_here, tab_behind, no_tab_left}
use Rattle.py_tokens.proofs.line.first_tab.Goals as goal

pub returns-then-ch-eq9 : goal.returns-then-ch-eq9
returns-then-ch-eq9 c = sym (tab_here c.loop-rest.here c.ch-item.result c.loop-rest.rest.now c.in-len1-up.len_at_least c.ch-item.is c.if-ch-eq9.true) ∙ c.loop-rest.invariant

pub returns-then-ch-ne32 : goal.returns-then-ch-ne32
returns-then-ch-ne32 c = sym (no_tab_here c.loop-rest.here c.ch-item.result c.loop-rest.rest.now c.in-len1-up.len_at_least c.ch-item.is c.if-ch-eq9.false c.if-ch-ne32.true) ∙ c.loop-rest.invariant

pub loop-rest-preserved : goal.loop-rest-preserved
loop-rest-preserved c = tab_behind c.loop-rest.here c.next_place-here.result c.ch-item.result c.loop-rest.rest.now c.in-len1-up.len_at_least c.ch-item.is c.if-ch-ne32.false c.next_place-here.ensures ∙ c.loop-rest.invariant

pub returns : goal.returns
returns c = sym (no_tab_left c.loop-rest.here c.loop-rest.rest.now c.in_default.len_below) ∙ c.loop-rest.invariant
