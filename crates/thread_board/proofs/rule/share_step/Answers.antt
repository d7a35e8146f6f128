use Rattle.std.proofs.Common.{◌∙◌, ap}
use Rattle.xp_board.specs.Acts.{left_by}
use Rattle.thread_board.proofs.Acting.{loads, exchanges, stores, adds, raises}
use Rattle.thread_board.proofs.Sharing.{asks_share}
use Rattle.thread_board.proofs.rule.share_step.Goals as goal

pub load-requires : goal.load-requires
load-requires g c =
    asks_share c.every_run_stays_sound.ensures c.an_unseen_run_word_stays.ensures _ _ _ _ _ _ _ _ _ _ c.requires.seat c.requires.deed c.requires.words c.requires.sound c.requires.vcpu c.requires.hand c.requires.legal (ap left_by c.in-Load.is ∙ loads)

pub compare_exchange-requires : goal.compare_exchange-requires
compare_exchange-requires g c =
    asks_share c.every_run_stays_sound.ensures c.an_unseen_run_word_stays.ensures _ _ _ _ _ _ _ _ _ _ c.requires.seat c.requires.deed c.requires.words c.requires.sound c.requires.vcpu c.requires.hand c.requires.legal (ap left_by c.in-Cas.is ∙ exchanges _ _)

pub swap-requires : goal.swap-requires
swap-requires g c =
    asks_share c.every_run_stays_sound.ensures c.an_unseen_run_word_stays.ensures _ _ _ _ _ _ _ _ _ _ c.requires.seat c.requires.deed c.requires.words c.requires.sound c.requires.vcpu c.requires.hand c.requires.legal (ap left_by c.in-Store.is ∙ stores _)

pub fetch_add-requires : goal.fetch_add-requires
fetch_add-requires g c =
    asks_share c.every_run_stays_sound.ensures c.an_unseen_run_word_stays.ensures _ _ _ _ _ _ _ _ _ _ c.requires.seat c.requires.deed c.requires.words c.requires.sound c.requires.vcpu c.requires.hand c.requires.legal (ap left_by c.in-Add.is ∙ adds _)

pub fetch_max-requires : goal.fetch_max-requires
fetch_max-requires g c =
    asks_share c.every_run_stays_sound.ensures c.an_unseen_run_word_stays.ensures _ _ _ _ _ _ _ _ _ _ c.requires.seat c.requires.deed c.requires.words c.requires.sound c.requires.vcpu c.requires.hand c.requires.legal (ap left_by c.in-Max.is ∙ raises _)
