use Rattle.std.proofs.Common.{Err, sym, ap, ◌∙◌}
use Rattle.std.proofs.lemmas.Result.{err_from_is_err_and}
use Rattle.xp_words.proofs.EntryLaws.{fixed_again}
use Rattle.desc_pages.proofs.Describing.{bad_address, bad_as, barred_updates, good_address, put_updates, unreferred_updates}
use Rattle.desc_pages.proofs.descriptors.update_descriptor.Goals as goal

pub returns-then-address-ne0 : goal.returns-then-address-ne0
returns-then-address-ne0 g c = barred_updates (g.P.Port.value c.args.port.now) c.args.address c.args.word (bad_address c.args.address c.if-address-ne0.true) c.requires.rests

-- ---- the reference is not to be had
pub returns-in_err-frame : goal.returns-in_err-frame
returns-in_err-frame g c =
    let r = c.in_err-frame.ensures in
    let answer = err_from_is_err_and c.from_residual.result c.from_residual.ensures.1 in
    unreferred_updates (g.P.Port.value c.args.port.now) c.args.address c.args.word (good_address c.args.address c.if-address-ne0.false) c.requires.rests (g.P.Port.value c.get_ref.new.port) c.own_domain-owner.result _ (answer.1 ∙ ap Err answer.2)
    c.own_domain-owner.ensures.own r.serves r.hand r.kinds (record { found = r.gets; plain = r.plain; stops = r.stops })

-- ---- the descriptor has no fixed form
pub returns-in-None : goal.returns-in-None
returns-in-None g c =
    let r = c.in_ok-frame.ensures in
    let p = c.put_ref.ensures in
    bad_as (g.P.Port.value c.args.port.now) c.args.address c.args.word (good_address c.args.address c.if-address-ne0.false) c.requires.rests (g.P.Port.value c.get_ref.new.port) c.own_domain-owner.result c.in_ok-frame.frame c.own_domain-owner.ensures.own
    r.frame.0 r.serves r.hand (g.P.Port.value c.put_ref.new.port) (sym c.fix.ensures ∙ c.in-None.is) p.serves p.puts p.hand p.plain r.gets r.plain

-- ---- it has one
pub store_under-requires-clause-fixed : goal.store_under-requires-clause-fixed
store_under-requires-clause-fixed g c = fixed_again c.args.word c.in-Some.new (sym c.fix.ensures ∙ c.in-Some.is)

pub returns-in-Some : goal.returns-in-Some
returns-in-Some g c =
    let r = c.in_ok-frame.ensures in
    put_updates (g.P.Port.value c.args.port.now) c.args.address c.args.word (good_address c.args.address c.if-address-ne0.false) c.requires.rests (g.P.Port.value c.get_ref.new.port) c.own_domain-owner.result c.in_ok-frame.frame c.own_domain-owner.ensures.own
    r.frame.0 r.serves r.hand (g.P.Port.value c.store_under.new.port) c.in-Some.new (sym c.fix.ensures ∙ c.in-Some.is) c.store_under.result c.store_under.ensures r.gets r.plain
