use Rattle.std.proofs.Common.{true}
use Rattle.step_maker.proofs.Piecing.{serves_came}
use Rattle.level_validate.specs.Unwinding.{own_domain}
use Rattle.table_bases.specs.Asking.{of_base}
use Rattle.table_bases.proofs.Installed.{holds_old, none_course, old_course, released_serves, set_serves, warm_behind, word_after}
use Rattle.table_bases.proofs.installing.install.Goals as goal

pub flush_behind-requires-clause-warm : goal.flush_behind-requires-clause-warm
flush_behind-requires-clause-warm g c = warm_behind c.args.base c.args.new c.put_base-old.ensures.moves c.put_base-old.ensures.hand c.requires.warm

-- ---- the word named none
pub returns-then-old-eq0-clause-serves : goal.returns-then-old-eq0-clause-serves
returns-then-old-eq0-clause-serves g c = set_serves c.args.base c.args.new c.put_base-old.ensures.moves c.flush_behind.ensures.flushes

pub returns-then-old-eq0-clause-course : goal.returns-then-old-eq0-clause-course
returns-then-old-eq0-clause-course g c = none_course c.args.base c.args.new c.put_base-old.ensures.moves c.flush_behind.ensures.flushes c.if-old-eq0.true

-- ---- what it named is released
pub release-requires-clause-holds : goal.release-requires-clause-holds
release-requires-clause-holds g c =
    holds_old c.args.base c.args.new c.put_base-old.ensures.moves c.flush_behind.ensures.flushes c.put_base-old.ensures.hand c.flush_behind.ensures.hand c.requires.others c.if-old-eq0.false

pub returns-else-old-eq0-clause-serves : goal.returns-else-old-eq0-clause-serves
returns-else-old-eq0-clause-serves g c =
    let d = own_domain (g.P.Port.value c.args.port.now) in
    let serves = c.release.ensures.serves d (of_base d c.args.new true).pages_of in
    let w = g.P.Port.value c.release.new.port in
    let came = serves_came (g.P.Port.value c.flush_behind.new.port) w _ _ serves in
    released_serves c.args.base c.args.new c.put_base-old.ensures.moves c.flush_behind.ensures.flushes w came _ (word_after c.put_base-old.result c.if-old-eq0.false) c.release.result c.release.ensures.kinds serves

pub returns-else-old-eq0-clause-course : goal.returns-else-old-eq0-clause-course
returns-else-old-eq0-clause-course g c = old_course c.args.base c.args.new c.put_base-old.ensures.moves c.flush_behind.ensures.flushes c.if-old-eq0.false c.release.ensures.kinds c.release.ensures.course

pub returns-else-old-eq0-2-clause-serves : goal.returns-else-old-eq0-2-clause-serves
returns-else-old-eq0-2-clause-serves g c =
    let d = own_domain (g.P.Port.value c.args.port.now) in
    let serves = c.release.ensures.serves d (of_base d c.args.new true).pages_of in
    let w = g.P.Port.value c.release.new.port in
    let came = serves_came (g.P.Port.value c.flush_behind.new.port) w _ _ serves in
    released_serves c.args.base c.args.new c.put_base-old.ensures.moves c.flush_behind.ensures.flushes w came _ (word_after c.put_base-old.result c.if-old-eq0.false) c.release.result c.release.ensures.kinds serves

pub returns-else-old-eq0-2-clause-course : goal.returns-else-old-eq0-2-clause-course
returns-else-old-eq0-2-clause-course g c = old_course c.args.base c.args.new c.put_base-old.ensures.moves c.flush_behind.ensures.flushes c.if-old-eq0.false c.release.ensures.kinds c.release.ensures.course
