use Rattle.std.proofs.Common.{◌<◌, length, sym, subst}
use Rattle.xp_board.specs.Told.{PortValue}
use Rattle.frame_words.proofs.Taking.{domain_known}
use Rattle.frame_words.proofs.Putting.{last_lowered, last_ends, gave_last, puts_last, puts_more, does_last, does_more}
use Rattle.frame_words.proofs.Twinning.{twin_last, twin_more}
use Rattle.frame_words.proofs.Alike.{told_owned}
use Rattle.frame_words.proofs.references.put_ref.Goals as goal

pub free_frame-requires-clause-domain : goal.free_frame-requires-clause-domain
free_frame-requires-clause-domain g c =
    subst (λ (q : PortValue). c.in-Some.owner < length q.post.machine.page_limit) (sym c.lower_refs-found.ensures.hand)
    (domain_known _ _ _ c.args.frame c.lower_refs-found.result c.in-Some.owner 1 c.in-Some.ensures.0 c.requires.frame c.lower_refs-found.ensures.moves.finds c.in-Some.ensures.1)

pub free_frame-requires-clause-ending : goal.free_frame-requires-clause-ending
free_frame-requires-clause-ending g c =
    last_ends _ _ c.args.frame c.lower_refs-found.result c.in-Some.owner c.in-Some.ensures.0 c.lower_refs-found.ensures.moves c.lower_refs-found.ensures.hand c.in-Some.ensures.1

pub free_frame-requires-clause-lowered : goal.free_frame-requires-clause-lowered
free_frame-requires-clause-lowered g c =
    last_lowered _ _ c.args.frame c.lower_refs-found.result c.in-Some.owner c.in-Some.ensures.0 c.lower_refs-found.ensures.moves c.lower_refs-found.ensures.hand c.in-Some.ensures.1

pub returns-in-Some-clause-serves : goal.returns-in-Some-clause-serves
returns-in-Some-clause-serves g c =
    puts_last _ _ c.args.frame c.lower_refs-found.result c.in-Some.owner c.in-Some.ensures.0 c.lower_refs-found.ensures.moves c.lower_refs-found.ensures.hand c.in-Some.ensures.1 _ c.free_frame.ensures

pub returns-in-Some-clause-hand : goal.returns-in-Some-clause-hand
returns-in-Some-clause-hand g c =
    gave_last _ _ c.args.frame c.lower_refs-found.result c.in-Some.owner c.in-Some.ensures.0 c.lower_refs-found.ensures.moves c.lower_refs-found.ensures.hand c.in-Some.ensures.1 _ c.free_frame.ensures

pub returns-in-None-clause-serves : goal.returns-in-None-clause-serves
returns-in-None-clause-serves g c = puts_more _ _ c.args.frame c.lower_refs-found.result c.lower_refs-found.ensures.moves

pub returns-in-Some-clause-plain : goal.returns-in-Some-clause-plain
returns-in-Some-clause-plain g c =
    twin_last _ _ _ c.args.frame c.lower_refs-found.result c.in-Some.owner c.in-Some.ensures.0 c.lower_refs-found.ensures.moves c.in-Some.ensures.1 c.free_frame.ensures

pub returns-in-None-clause-plain : goal.returns-in-None-clause-plain
returns-in-None-clause-plain g c = twin_more _ _ c.args.frame c.lower_refs-found.result c.lower_refs-found.ensures.moves c.in-None.ensures

pub returns-in-Some-clause-puts : goal.returns-in-Some-clause-puts
returns-in-Some-clause-puts g c =
    does_last _ _ c.args.frame c.lower_refs-found.result c.in-Some.owner c.in-Some.ensures.0 c.lower_refs-found.ensures.moves c.lower_refs-found.ensures.hand c.in-Some.ensures.1 _ c.free_frame.ensures

pub returns-in-None-clause-puts : goal.returns-in-None-clause-puts
returns-in-None-clause-puts g c = does_more _ _ c.args.frame c.lower_refs-found.result c.lower_refs-found.ensures.moves c.in-None.ensures

pub returns-in-Some-clause-owned : goal.returns-in-Some-clause-owned
returns-in-Some-clause-owned g c = told_owned _ _ c.args.frame c.lower_refs-found.result c.lower_refs-found.ensures.moves c.requires.gives

pub returns-in-None-clause-owned : goal.returns-in-None-clause-owned
returns-in-None-clause-owned g c = told_owned _ _ c.args.frame c.lower_refs-found.result c.lower_refs-found.ensures.moves c.requires.gives
