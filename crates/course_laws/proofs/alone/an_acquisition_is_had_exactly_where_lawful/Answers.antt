use Rattle.std.proofs.Common.{inl, inr}
use Rattle.course_laws.proofs.alone.an_acquisition_is_had_exactly_where_lawful.Goals as goal
use Rattle.answer_laws.proofs.Shared.{alone_telling}

pub returns-clause-one : goal.returns-clause-one
returns-clause-one c v w f owner level answers answer alone one calm low high acquired none goes =
    c.a_decided_acquisition_is_had_exactly_where_lawful.ensures v w f owner level answers answer alone.state.sound.machine (alone_telling v alone) calm (c.who_is_alone_has_orderly_words.ensures v alone) low high acquired
    (c.an_acquisition_alone_is_decided.ensures.one v w f owner level answers answer alone one acquired none goes)

pub returns-clause-several : goal.returns-clause-several
returns-clause-several c v w f owner level answers answer alone calm low high acquired none goes =
    elim (c.an_acquisition_alone_is_decided.ensures.several v w f owner level answers answer alone acquired none goes) [
      | inl decided ↦
          inl (c.a_decided_acquisition_is_had_exactly_where_lawful.ensures v w f owner level answers answer alone.state.sound.machine (alone_telling v alone) calm (c.who_is_alone_has_orderly_words.ensures v alone) low high acquired decided)
      | inr awaits ↦ inr awaits
    ]
