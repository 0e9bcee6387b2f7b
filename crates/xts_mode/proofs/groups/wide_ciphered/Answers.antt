use Rattle.xts_mode.proofs.groups.wide_ciphered.Goals as goal

pub returns-in-Seal-clause-sides : goal.returns-in-Seal-clause-sides
returns-in-Seal-clause-sides c = rw c.in-Seal.is c.wide_encrypted.ensures.sides

pub returns-in-Open-clause-sides : goal.returns-in-Open-clause-sides
returns-in-Open-clause-sides c = rw c.in-Open.is c.wide_decrypted.ensures.sides
