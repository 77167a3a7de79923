use Rattle.std.proofs.Common.{◌<◌, ◌^◌, arith}
use Rattle.cm_wire.specs.Unread.{AreBytes}
use Rattle.module_file.specs.Whole.{answer_read, answer_given, answer_version}
use Rattle.module_file.proofs.read_file.Goals as goal

pub returns : goal.returns
returns c =
    let size = c.args.size in
    let head = c.args.head.now in
    let index = c.args.index.now in
    let small : size < 2 ^ 64 = omega arith in
    let head_bytes : AreBytes head = λ i. (let fits = c.type_inv.head i in omega arith) in
    let index_bytes : AreBytes index = λ i. (let fits = c.type_inv.index i in omega arith) in
    let said = c.read_sealed.ensures.said in record {
      read = answer_read size head index c.read_sealed.result small head_bytes index_bytes said;
      given_back = λ i fits e whole sized. answer_given size head index c.read_sealed.result i said fits e whole sized;
      head = c.read_sealed.ensures.head;
      other_version = λ n e. answer_version size head index c.read_sealed.result n said e;
    }
