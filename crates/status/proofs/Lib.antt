pub mod ReasonNumbers
