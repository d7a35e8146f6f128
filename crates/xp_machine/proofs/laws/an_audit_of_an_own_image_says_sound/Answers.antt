use Rattle.xp_machine.specs.declared.audits.Showing.TheVariants.{Line}
use Rattle.xp_machine.proofs.Imaging.{sound_told, told_of}
use Rattle.xp_machine.proofs.laws.an_audit_of_an_own_image_says_sound.Goals as goal

pub returns : goal.returns
returns c = λ t gates bytes image answer text judgement.
    let told = told_of Line t gates bytes image answer text judgement in
    sound_told t.layout told.0 answer text c.sound_words_break_nothing.ensures told.1 told.2
