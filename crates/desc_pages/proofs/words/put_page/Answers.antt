use Rattle.desc_pages.proofs.Putting.{may_drop_old, may_put_page, puts_given, puts_none}
use Rattle.desc_pages.proofs.words.put_page.Goals as goal

pub put_name-old-requires-clause-names : goal.put_name-old-requires-clause-names
put_name-old-requires-clause-names g c = may_put_page (g.P.Port.value c.args.port.now) c.args.word c.args.new c.requires.holds.0 c.requires.low c.requires.holds.1

pub drop_plain-requires-clause-drops : goal.drop_plain-requires-clause-drops
drop_plain-requires-clause-drops g c =
    may_drop_old (g.P.Port.value c.args.port.now) (g.P.Port.value c.put_name-old.new.port) c.args.word c.args.new c.requires.holds.0 c.requires.low c.requires.holds.1 c.put_name-old.result c.put_name-old.ensures.moves c.put_name-old.ensures.hand c.if-old-ne0.true

pub returns-then-old-ne0 : goal.returns-then-old-ne0
returns-then-old-ne0 g c rest p =
    puts_given (g.P.Port.value c.args.port.now) (g.P.Port.value c.put_name-old.new.port) c.args.word c.args.new rest c.requires.low p c.put_name-old.result c.put_name-old.ensures.moves c.put_name-old.ensures.hand c.if-old-ne0.true
    (g.P.Port.value c.drop_plain.new.port) c.drop_plain.ensures.serves c.drop_plain.ensures.hand c.drop_plain.ensures.found

pub returns-else-old-ne0 : goal.returns-else-old-ne0
returns-else-old-ne0 g c rest p =
    puts_none (g.P.Port.value c.args.port.now) (g.P.Port.value c.put_name-old.new.port) c.args.word c.args.new rest c.requires.low p c.put_name-old.result c.put_name-old.ensures.moves c.put_name-old.ensures.hand c.if-old-ne0.false
