use Rattle.cm_outside.proofs.snapshot_tests.read_twice.Goals as goal

pub returns-in_err-bytes-clause-back : goal.returns-in_err-bytes-clause-back
returns-in_err-bytes-clause-back g c = λ f h. c.read.follows.holds-at-none.back f (c.read-2.follows.holds-at-none.back f h)

pub returns-in-Bytes-clause-back : goal.returns-in-Bytes-clause-back
returns-in-Bytes-clause-back g c = λ f h. c.read.follows.holds-at-none.back f (c.read-2.follows.holds-at-none.back f h)

pub returns-in_ok-bytes-clause-back : goal.returns-in_ok-bytes-clause-back
returns-in_ok-bytes-clause-back g c = λ f h. c.read.follows.holds-at-none.back f (c.read-2.follows.holds-at-none.back f h)

pub returns-in_ok-bytes-2-clause-back : goal.returns-in_ok-bytes-2-clause-back
returns-in_ok-bytes-2-clause-back g c = λ f h. c.read.follows.holds-at-none.back f (c.read-2.follows.holds-at-none.back f h)
