use Rattle.mk_patch.proofs.on_moves.MoveLemmas.{put_in-taken_back, take_out-taken_back, exchange-taken_back, swap_end-taken_back}
use Rattle.mk_patch.proofs.step.Step.make.Goals as goal

pub returns-in-PutIn-clause-leads_back : goal.returns-in-PutIn-clause-leads_back
returns-in-PutIn-clause-leads_back g c = (put_in-taken_back _ _ _ _ (rw c.in-PutIn.is at c.requires) c.insert.ensures.lines).leads

pub returns-in-TakeOut-clause-fits_back : goal.returns-in-TakeOut-clause-fits_back
returns-in-TakeOut-clause-fits_back g c = (take_out-taken_back _ _ _ _ (rw c.in-TakeOut.is at c.requires) c.remove-out.ensures.lines c.remove-out.ensures.line c.size.ensures.few).fits

pub returns-in-TakeOut-clause-leads_back : goal.returns-in-TakeOut-clause-leads_back
returns-in-TakeOut-clause-leads_back g c = (take_out-taken_back _ _ _ _ (rw c.in-TakeOut.is at c.requires) c.remove-out.ensures.lines c.remove-out.ensures.line c.size.ensures.few).leads

pub returns-in-Exchange-clause-fits_back : goal.returns-in-Exchange-clause-fits_back
returns-in-Exchange-clause-fits_back g c = (exchange-taken_back _ _ _ _ _ (rw c.in-Exchange.is at c.requires) c.replace-old.ensures.lines c.replace-old.ensures.line c.size.ensures.few).fits

pub returns-in-Exchange-clause-leads_back : goal.returns-in-Exchange-clause-leads_back
returns-in-Exchange-clause-leads_back g c = (exchange-taken_back _ _ _ _ _ (rw c.in-Exchange.is at c.requires) c.replace-old.ensures.lines c.replace-old.ensures.line c.size.ensures.few).leads

pub returns-in-SwapEnd-clause-fits_back : goal.returns-in-SwapEnd-clause-fits_back
returns-in-SwapEnd-clause-fits_back g c =
    let f = rw c.in-SwapEnd.is at c.requires in
    let s = c.swap_end-old.ensures in
    (swap_end-taken_back _ _ _ _ f s.lines s.old s.some_bytes_back c.size.ensures.few).fits

pub returns-in-SwapEnd-clause-leads_back : goal.returns-in-SwapEnd-clause-leads_back
returns-in-SwapEnd-clause-leads_back g c =
    let f = rw c.in-SwapEnd.is at c.requires in
    let s = c.swap_end-old.ensures in
    (swap_end-taken_back _ _ _ _ f s.lines s.old s.some_bytes_back c.size.ensures.few).leads

pub returns-in-PutIn-clause-fits_back : goal.returns-in-PutIn-clause-fits_back
returns-in-PutIn-clause-fits_back g c = (put_in-taken_back _ _ _ _ (rw c.in-PutIn.is at c.requires) c.insert.ensures.lines).fits
