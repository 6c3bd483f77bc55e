use Rattle.ix_workers.proofs.laws.passes_come_back.Goals as goal

pub returns-clause-short : goal.returns-clause-short
returns-clause-short c = λ plan table w back fits short. record { fits = fits; works = λ e. absurd (cc (short, e)) }

pub returns-clause-of_another_table : goal.returns-clause-of_another_table
returns-clause-of_another_table c = λ plan table w back other is. other is.fits
