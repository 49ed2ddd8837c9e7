use Rattle.std.proofs.Common.{inl}
use Rattle.ec_commands_bound.proofs.Numbers.{machines_end, unbounded}
use Rattle.ec_commands_bound.proofs.bounding.count.Goals as goal

pub returns-in-Err-clause-complete : goal.returns-in-Err-clause-complete
returns-in-Err-clause-complete g c = λ accepted calm. inl (c.in-Err.ensures.complete accepted calm)

pub returns-in-Err-clause-calm : goal.returns-in-Err-clause-calm
returns-in-Err-clause-calm g c = λ made room calm. (c.in-Err.ensures.calm made room calm).0

pub bound-counted-requires : goal.bound-counted-requires
bound-counted-requires g c = c.in-Ok.ensures.found.built.image.translated.valid

pub returns-in-Ok-counted-clause-found : goal.returns-in-Ok-counted-clause-found
returns-in-Ok-counted-clause-found g c = record {
  built = c.in-Ok.built;
  from = c.in-Ok.ensures.found;
  counted = c.in-Ok-counted.ensures.counted;
  number = c.in-Ok-counted.ensures.number;
  ends = machines_end c.builds_have_one_image.ensures c.args.words.now.items _ c.in-Ok.built c.in-Ok.ensures.found
      c.in-Ok-counted.steps c.in-Ok-counted.ensures.ends;
}

pub returns-in-Ok-counted-clause-calm : goal.returns-in-Ok-counted-clause-calm
returns-in-Ok-counted-clause-calm g c = λ made room calm. (c.in-Ok.ensures.calm made room calm).0

pub returns-in-Err-counted-clause-stopped : goal.returns-in-Err-counted-clause-stopped
returns-in-Err-counted-clause-stopped g c =
    record { built = c.in-Ok.built; from = c.in-Ok.ensures.found; cause = c.in-Err-counted.ensures.stopped }

pub returns-in-Err-counted-clause-complete : goal.returns-in-Err-counted-clause-complete
returns-in-Err-counted-clause-complete g c = λ accepted calm. unbounded c.in-Err-counted.stop

pub returns-in-Err-counted-clause-calm : goal.returns-in-Err-counted-clause-calm
returns-in-Err-counted-clause-calm g c = λ made room calm. (c.in-Ok.ensures.calm made room calm).0
