use Rattle.std.proofs.Common.{inl, inr}
use Rattle.dagsched.proofs.do_words.Goals as goal

pub returns-in-Err : goal.returns-in-Err
returns-in-Err g c =
    let is = rw c.as_slice.ensures.value at c.in-Err.ensures in
    let told = rw c.as_slice-in-Err.ensures.value at c.put_fault.ensures in
    elim told [ inl known ↦ inr (inl (c.in-Err.fault, is known.0, known.1)) | inr failed ↦ inr (inr failed) ]
