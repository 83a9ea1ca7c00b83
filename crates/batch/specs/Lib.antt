-- SPDX-License-Identifier: Apache-2.0
pub mod Batch
pub mod Answers
pub mod Parts
pub mod Rules
