use Rattle.m2p_map.proofs.Finding.{set_found}
use Rattle.m2p_map.proofs.Mapping.{held, given_back, maps_at, set_twin}
use Rattle.m2p_map.proofs.set_m2p.Goals as goal

pub store_m2p-requires-clause-held : goal.store_m2p-requires-clause-held
store_m2p-requires-clause-held g c = held _ _ c.in_ok-frame.ensures.gives

pub returns-clause-serves : goal.returns-clause-serves
returns-clause-serves g c = maps_at _ _ _ _ _ c.args.f c.args.owner c.args.gpfn _ c.in_ok-frame.ensures.frame.0 c.in_ok-frame.ensures.serves c.in_ok-frame.ensures.gives c.store_m2p.ensures.moves c.put_ref.ensures.serves

pub returns-clause-hand : goal.returns-clause-hand
returns-clause-hand g c =
    given_back (g.P.Port.value c.args.port.now) (g.P.Port.value c.get_ref.new.port) (g.P.Port.value c.store_m2p.new.port) (g.P.Port.value c.put_ref.new.port) c.in_ok-frame.frame c.args.owner
    c.in_ok-frame.ensures.hand c.store_m2p.ensures.hand c.put_ref.ensures.hand

pub returns-clause-plain : goal.returns-clause-plain
returns-clause-plain g c =
    set_twin _ _ _ (g.P.Port.value c.put_ref.new.port) _ c.args.f c.args.owner c.args.gpfn _ _ _ c.in_ok-frame.ensures.frame.0 c.in_ok-frame.ensures.serves c.in_ok-frame.ensures.plain c.store_m2p.ensures.moves c.put_ref.ensures.plain

pub returns-clause-found : goal.returns-clause-found
returns-clause-found g c =
    set_found (g.P.Port.value c.args.port.now) (g.P.Port.value c.get_ref.new.port) (g.P.Port.value c.store_m2p.new.port) (g.P.Port.value c.put_ref.new.port) c.args.f c.args.owner c.args.gpfn _ c.in_ok-frame.frame c.in_ok-frame.ensures.gets
    c.in_ok-frame.frame c.in_ok-frame.ensures.frame.0 c.store_m2p.ensures.moves c.put_ref.ensures.puts
